-- Parts of a record that code asks for.
use Rattle.std.specs.Prelude.{ℕ, ◌+◌, cond, ◌&&◌, List, Some, None, Option, nat_lt}
use Rattle.syntax.specs.declared.Production.{Production}
use Rattle.syntax.specs.declared.Symbol.{Symbol}
use Rattle.syntax.specs.Grammar.{longest}
use Rattle.layout.specs.Records.{at, symbol}

-- the production of a P record without its right symbols
abbrev pub head_in : List ℕ → Production
head_in r = record { left = at r 4; length = at r 5 }

-- symbol k of a record, within its length and within the payload
abbrev pub symbol_in : List ℕ → ℕ → Option Symbol
symbol_in r k = cond (nat_lt k (at r 5) && nat_lt k longest) (Some (symbol (at r (8 + k)))) None
