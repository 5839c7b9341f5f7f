-- What the verdict on a sheet says, as theorems about definitions alone.
use Rattle.std.specs.Prelude.{◌≡◌, ℕ, ◌≤◌, ◌↔◌, List, ◌++◌, Some, None}
use Rattle.syntax.specs.Grammar.{terminals}
use Rattle.table.specs.Hints.{HintsLawful}
use Rattle.table.specs.Safety.{Safe}
use Rattle.table.specs.Completeness.{Complete}
use Rattle.table.specs.Validity.{Valid}
use Rattle.layout.specs.declared.Refusal.{Refusal}
use Rattle.layout.specs.Records.{Sheet, sheet}
use Rattle.layout.specs.Meaning.{automaton, hints}
use Rattle.layout.specs.Opening.{opening_passes}
use Rattle.layout.specs.Checking.{checking_passes, verdict}
use Rattle.wellformed.specs.Formed.{Formed}
use Rattle.wellformed.specs.Told.{Tells}

-- a well-formed sheet whose table is safe and complete under its hints
pub record Meets (sh : Sheet) : Type 0 where
  pub formed : Formed sh
  pub safe : Safe (automaton sh) (hints sh)
  pub complete : Complete (automaton sh) (hints sh)

-- nothing is refused exactly of the sheets that meet all conditions
abbrev pub PassesExactlyTheValid : Type 0
PassesExactlyTheValid = (bs : List ℕ) → (verdict (sheet bs) ≡ None) ↔ Meets (sheet bs)

-- and so it is in every format whose sets have room for the terminals
abbrev pub PassesInEachFormat : Type 0
PassesInEachFormat = (sh : Sheet) → terminals ≤ sh.format.states → (verdict sh ≡ None) ↔ Meets sh

-- the hints of a well-formed sheet are in place together with its table
abbrev pub HintsAreLawful : Type 0
HintsAreLawful = (sh : Sheet) → Formed sh → HintsLawful (automaton sh) (hints sh)

-- a sheet of which nothing is refused holds a valid table
abbrev pub CheckedIsValid : Type 0
CheckedIsValid = (sh : Sheet) → verdict sh ≡ None → Valid sh.format.states (automaton sh)

-- what is refused is what the first pass that fails refuses, at its least place
abbrev pub VerdictTellsFirst : Type 0
VerdictTellsFirst = (sh : Sheet) (x : Refusal) →
    (verdict sh ≡ Some x) ↔ Tells (opening_passes sh ++ checking_passes sh) x
