-- Sets that are read, as the hints have them.
use Rattle.std.proofs.Common.{◌≡◌, ℕ, false, List, Some, None, Option, sym, refl, ap, ◌∙◌, subst}
use Rattle.table.specs.Automaton.{nth}
use Rattle.table.specs.Hints.{Set}
use Rattle.hinted.specs.Sets.{Holds, HoldsIfAny}
use Rattle.layout.specs.declared.Letter.TheVariants.{K}
use Rattle.layout.specs.Choices.{given, mapped}
use Rattle.layout.specs.Records.{sixteen, sheet, record_at, payload, member, set_in}
use Rattle.layout.specs.Meaning.{placed, hints}
use Rattle.wellformed.specs.Formed.{Formed}
use Rattle.wellformed.proofs.Bits.{stands_none}
use Rattle.wellformed.proofs.Bounds.{past_set_is}

module _ (bs : List ℕ) where
  abbrev set_at : ℕ → Set
  set_at i = set_in sixteen (record_at (sheet bs) i)

  abbrev pub payload_at : ℕ → ℕ
  payload_at i = payload sixteen (record_at (sheet bs) i)

  -- where no record is found the set is empty
  pub holds_found : (o : Option ℕ) (m : ℕ) → m ≡ given 0 payload_at o → Holds m (given (λ x. false) set_at o)
  holds_found None m e x = ap (λ k. member sixteen k x) e ∙ stands_none sixteen x
  holds_found (Some i) m e x = ap (λ k. member sixteen k x) e

  found_if_any : (o : Option ℕ) (m : Option ℕ) → m ≡ mapped payload_at o → HoldsIfAny m (mapped set_at o)
  found_if_any None m e = subst (λ n. HoldsIfAny n None) (sym e) tt
  found_if_any (Some i) m e = subst (λ n. HoldsIfAny n (mapped set_at (Some i))) (sym e) (λ x. refl)

  -- a past set is the one with its key
  pub past_found : Formed (sheet bs) → (s d : ℕ) (m : Option ℕ) → m ≡ mapped payload_at (placed (sheet bs) K s d 0) →
      HoldsIfAny m (nth ((hints (sheet bs)).past_sets s) d)
  past_found w s d m e =
      subst (HoldsIfAny m) (sym (past_set_is bs w s d)) (found_if_any (placed (sheet bs) K s d 0) m e)
