-- The sum of all numbers of a plan's tokens, as 64 bits hold it.
use Rattle.std.specs.Prelude.{List, [], ◌∷◌, ℕ, ◌+◌, ◌%◌, ◌^◌}
use Rattle.syntax.specs.declared.Token.{Token}
use Rattle.lexing.specs.Plans.{lexed_from}
use Rattle.lexer.specs.Opening.{open_after}

abbrev pub shape : Token → ℕ
shape t = t.kind + t.place + t.length

-- of these tokens and v
abbrev pub sum : ℕ → List Token → ℕ
sum v [] = v
sum v (t ∷ ts) = sum (((v + shape t) % (2 ^ 64) + t.value) % (2 ^ 64)) ts

-- of a plan; of one that is refused, the sum of nothing
abbrev pub plan_sum : List ℕ → ℕ
plan_sum plan = sum 0 (open_after plan (lexed_from 0 [])).tokens
