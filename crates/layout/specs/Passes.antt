-- Passes over a sheet, and what a row of them refuses.
use Rattle.std.specs.Prelude.{ℕ, List, [], ◌∷◌, None, Option}
use Rattle.layout.specs.declared.Refusal.{Refusal}
use Rattle.layout.specs.Choices.{or_else, first}

-- places 0 to tries - 1 are tried in order, and the first that fails is refused
pub record Pass : Type 0 where
  pub tries : ℕ
  pub refused_at : ℕ → Option Refusal

abbrev pub pass : ℕ → (ℕ → Option Refusal) → Pass
pass n f = record { tries = n; refused_at = f }

-- the refusal of the first pass that has one
abbrev pub told : List Pass → Option Refusal
told [] = None
told (p ∷ ps) = let later = told ps in or_else (first p.refused_at p.tries) later
