-- Valid tables: safe and complete under hints that are well-formed together with them.
use Rattle.std.specs.Prelude.{ℕ}
use Rattle.table.specs.Automaton.{Automaton}
use Rattle.table.specs.Lawful.{Lawful}
use Rattle.table.specs.Hints.{Hints, HintsLawful}
use Rattle.table.specs.Safety.{Safe}
use Rattle.table.specs.Completeness.{Complete}

-- there are hints under which the table is safe
pub record SafeUnderHints (states : ℕ) (M : Automaton) : Type 0 where
  pub hints : Hints
  pub lawful : Lawful states M
  pub hints_lawful : HintsLawful M hints
  pub safe : Safe M hints

-- there are hints under which the table is complete
pub record CompleteUnderHints (states : ℕ) (M : Automaton) : Type 0 where
  pub hints : Hints
  pub lawful : Lawful states M
  pub complete : Complete M hints

-- there are hints under which it is both
pub record Valid (states : ℕ) (M : Automaton) : Type 0 where
  pub hints : Hints
  pub lawful : Lawful states M
  pub hints_lawful : HintsLawful M hints
  pub safe : Safe M hints
  pub complete : Complete M hints

-- a valid table is safe under its hints
abbrev pub safe_half : {states : ℕ} {M : Automaton} → Valid states M → SafeUnderHints states M
safe_half v = record {
  hints = v.hints;
  lawful = v.lawful;
  hints_lawful = v.hints_lawful;
  safe = v.safe;
}

-- and complete
abbrev pub complete_half : {states : ℕ} {M : Automaton} → Valid states M → CompleteUnderHints states M
complete_half v = record { hints = v.hints; lawful = v.lawful; complete = v.complete }
