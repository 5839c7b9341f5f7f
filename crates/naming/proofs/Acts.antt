-- Whether a state has an action, by the record from which on one would stand.
use Rattle.std.proofs.Common.{◌≡◌, ℕ, Bool, false, ◌&&◌, eqb, List, Some, None, Option, sym, refl, ap, ◌∙◌}
use Rattle.records.specs.declared.Record.{Record}
use Rattle.layout.specs.declared.Letter.TheVariants.{A}
use Rattle.layout.specs.Choices.{given}
use Rattle.layout.specs.Records.{sheet, at}
use Rattle.layout.specs.Opening.{acts}
use Rattle.wellformed.specs.Formed.{Sorted}
use Rattle.wellformed.proofs.Lookups.{acts_there, acts_nowhere}
use Rattle.sorted.specs.Found.{from_key}
use Rattle.sorted.proofs.Finds.{place_some, place_none}

-- a record that is an action of state s
abbrev pub is_action_of : ℕ → Record → Bool
is_action_of s r = eqb (at r.bytes 0) 65 && eqb (at r.bytes 1) s

module _ (bs : List ℕ) (w : Sorted (sheet bs)) (s : ℕ) where
  acts_by : (r : Record) → Some r ≡ from_key (sheet bs) A s 0 0 → is_action_of s r ≡ acts (sheet bs) s
  acts_by r e =
      let (lt, is) = place_some (sheet bs) _ r e in
      ap (is_action_of s) is ∙ acts_there bs w s _ refl lt

  acts_never : None ≡ from_key (sheet bs) A s 0 0 → false ≡ acts (sheet bs) s
  acts_never e = sym (acts_nowhere bs w s _ refl (place_none (sheet bs) _ e))

  pub acts_found : (o : Option Record) → o ≡ from_key (sheet bs) A s 0 0 →
      given false (is_action_of s) o ≡ acts (sheet bs) s
  acts_found None e = acts_never e
  acts_found (Some r) e = acts_by r e
