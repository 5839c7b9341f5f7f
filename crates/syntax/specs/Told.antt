-- How a refusal is printed.
use Rattle.std.specs.Prelude.{ℕ, List, ◌++◌, codes, decimal}

-- its number and its place, as in `9 at 3`
abbrev pub number_at_place : ℕ → ℕ → List ℕ
number_at_place number place = decimal number ++ codes " at " ++ decimal place
