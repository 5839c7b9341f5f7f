-- Grammars: their symbols, their productions by number, and the ranges that all of these keep.
use Rattle.std.specs.Prelude.{◌≡◌, ℕ, ◌<◌, ◌≤◌, List, [], ◌∷◌, Some, Option}
use Rattle.syntax.specs.declared.Token.{Token}
use Rattle.syntax.specs.declared.Symbol.{Symbol}
use Rattle.syntax.specs.declared.Symbol.TheVariants.{Terminal, Nonterminal}

-- a production: its left side, and its right symbols in order
pub record Rule : Type 0 where
  pub left : ℕ
  pub right : List Symbol

-- a grammar: its productions by number
abbrev pub Grammar : Type 0
Grammar = ℕ → Option Rule

-- the nonterminal of a whole text
abbrev pub start : Symbol
start = Nonterminal 0

-- how many terminals (END among them), nonterminals and productions there are at most, and the longest right side
abbrev pub terminals : ℕ
terminals = 32

abbrev pub nonterminals : ℕ
nonterminals = 32

abbrev pub productions : ℕ
productions = 64

abbrev pub longest : ℕ
longest = 8

-- terminal a can be the kind of a token: it is not END
abbrev pub Kind : ℕ → Type 0
Kind a = (1 ≤ a) × (a < terminals)

-- a symbol that may stand in a production
abbrev pub InRange : Symbol → Type 0
InRange (Terminal a) = Kind a
InRange (Nonterminal n) = n < nonterminals

-- P holds of each one
abbrev pub Every : {A : Type 0} → (A → Type 0) → List A → Type 0
Every P [] = Unit {0}
Every P (x ∷ xs) = P x × Every P xs

-- no token passes for END
abbrev pub Kinded : List Token → Type 0
Kinded = Every (λ t. Kind t.kind)

-- there is one
abbrev pub Present : {A : Type 0} → Option A → Type 0
Present {A} o = (x : A) × (o ≡ Some x)
