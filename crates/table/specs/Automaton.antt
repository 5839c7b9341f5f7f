-- What a table means: a grammar and an LR(1) automaton, of which state 0 is initial.
use Rattle.std.specs.Prelude.{ℕ, zero, suc, List, [], ◌∷◌, length, Some, None, Option}
use Rattle.syntax.specs.declared.Production.{Production}
use Rattle.syntax.specs.declared.Symbol.{Symbol}
use Rattle.syntax.specs.Grammar.{Rule, Grammar}
use Rattle.table.specs.declared.Action.{Action}
use Rattle.table.specs.declared.Action.TheVariants.{Reduce}

pub record Automaton : Type 0 where
  pub grammar : Grammar
  -- the symbol on every edge into a state; none for state 0
  pub incoming : ℕ → Option Symbol
  -- the production that a state reduces without a look at the next token
  pub default : ℕ → Option ℕ
  -- by state and terminal
  pub action : ℕ → ℕ → Action
  -- by state and nonterminal
  pub goto : ℕ → ℕ → Option ℕ

abbrev default_or : Option ℕ → Action → Action
default_or None x = x
default_or (Some p) x = Reduce p

-- the action in state s before terminal a, where 0 is the end of the text: the state's default, else that on a
abbrev pub decide : Automaton → ℕ → ℕ → Action
decide M s a = default_or (M.default s) (M.action s a)

-- a production without its right symbols
abbrev pub head : Option Rule → Option Production
head None = None
head (Some r) = Some (record { left = r.left; length = length r.right })

abbrev pub nth : {A : Type 0} → List A → ℕ → Option A
nth [] k = None
nth (x ∷ xs) zero = Some x
nth (x ∷ xs) (suc k) = nth xs k

-- right symbol k of a production
abbrev pub symbol_at : Option Rule → ℕ → Option Symbol
symbol_at None k = None
symbol_at (Some r) k = nth r.right k
