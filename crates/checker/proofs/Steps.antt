-- One turn of a pass: what the test of a record says of its place.
use Rattle.std.proofs.Common.{◌≡◌, ℕ, ◌<◌, ◌≤◌, Bool, false, cond, List, is_some, Some, Option, sym, ap, ◌∙◌, arith}
use Rattle.std.proofs.lemmas.Bool.{lt-ltb, le-ltb}
use Rattle.layout.specs.declared.Letter.TheVariants.{I, N}
use Rattle.layout.specs.declared.Refusal.{Refusal}
use Rattle.layout.specs.declared.Refusal.TheVariants.{Incomplete}
use Rattle.layout.specs.Choices.{given, unless}
use Rattle.layout.specs.Records.{Sheet, sheet, count, record_at, at, letter}
use Rattle.layout.specs.Meaning.{automaton, hints}
use Rattle.layout.specs.Opening.{by_letter, opening}
use Rattle.layout.specs.Checking as by_record
use Rattle.layout.specs.CompletenessTests.{equations_hold, item_at}
use Rattle.layout.specs.Checking.{initial_item, safe_as, complete_as, incomplete_refused}
use Rattle.wellformed.specs.Formed.{Formed}
use Rattle.wellformed.proofs.Formed.{formed_of, few_records}
use Rattle.exactness.proofs.Agree.{equations_same, item_same}

-- places fit into 32 bits
pub few : (bs : List ℕ) → is_some (opening (sheet bs)) ≡ false → count (sheet bs) ≤ 4095
few bs e = few_records bs (formed_of (sheet bs) e).sorted

module _ (sh : Sheet) where
  -- the tests of a record
  abbrev pub safe : List ℕ → Bool
  safe r = by_letter r (safe_as sh r)

  abbrev pub complete : List ℕ → Bool
  complete r = by_letter r (complete_as sh r)

  -- the last pass at a place, where this says whether the place is that of a record
  abbrev last : ℕ → Bool → Option Refusal
  last i t = unless (cond t (complete (record_at sh i)) (initial_item sh)) (Incomplete i)

  pub complete_here : (i : ℕ) → i < count sh → incomplete_refused sh i ≡ unless (complete (record_at sh i)) (Incomplete i)
  complete_here i lt = ap (last i) (lt-ltb i (count sh) lt)

  -- behind the last record, the initial item
  pub initial_here : incomplete_refused sh (count sh) ≡ unless (initial_item sh) (Incomplete (count sh))
  initial_here = ap (last (count sh)) (le-ltb (count sh) (count sh) (omega arith))

-- WHAT THE TABLE'S TESTS SAY OF A RECORD

module _ (sh : Sheet) (w : Formed sh) (r : List ℕ) (b : Bool) where
  -- of an item
  pub item_judged : letter r ≡ Some I → (s p d : ℕ) → s ≡ at r 1 → p ≡ at r 2 → d ≡ at r 3 →
      b ≡ item_at (automaton sh) (hints sh) s p d → b ≡ by_letter r (complete_as sh r)
  item_judged is s p d first second third h =
      h
      ∙ sym (item_same sh w s p d)
      ∙ ap (λ k. by_record.item_at sh k p d) first
      ∙ ap (λ k. by_record.item_at sh (at r 1) k d) second
      ∙ ap (λ k. by_record.item_at sh (at r 1) (at r 2) k) third
      ∙ sym (ap (given false (complete_as sh r)) is)

  -- of a nonterminal
  pub nonterminal_judged : letter r ≡ Some N → (n : ℕ) → n ≡ at r 1 →
      b ≡ equations_hold (automaton sh) (hints sh) n → b ≡ by_letter r (complete_as sh r)
  nonterminal_judged is n first h =
      h
      ∙ sym (equations_same sh w n)
      ∙ ap (by_record.equations_hold sh) first
      ∙ sym (ap (given false (complete_as sh r)) is)
