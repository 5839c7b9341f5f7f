-- Minutes: the values of the numbers of a plan, added up.
use Rattle.std.specs.Prelude.{ℕ, ◌+◌, min, max, cond, ◌==◌}
use Rattle.syntax.specs.declared.Token.{Token}

-- the largest 64-bit number
abbrev pub largest : ℕ
largest = 18446744073709551615

-- the sum, stopping at the largest number (or at x or y, should one lie above it)
abbrev pub added : ℕ → ℕ → ℕ
added x y = min (x + y) (max largest (max x y))

-- a number of a plan, kind 2, counts its value, and any other token nothing
abbrev pub minutes : Token → ℕ
minutes t = cond (t.kind == 2) t.value 0
