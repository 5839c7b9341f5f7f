-- Dense tables: rows of constants, of which each question reads the entry at an index.
use Rattle.std.specs.Prelude.{ℕ, ◌-◌, ◌≤◌, List, [], ◌++◌, map, length, replicate, Some, None, Option, slice_index_or}
use Rattle.syntax.specs.declared.Production.{Production}
use Rattle.syntax.specs.declared.Symbol.{Symbol}
use Rattle.syntax.specs.Grammar.{Rule, longest, terminals, nonterminals}
use Rattle.table.specs.declared.Action.{Action}
use Rattle.table.specs.declared.Action.TheVariants.{Reject}
use Rattle.table.specs.Automaton.{Automaton, nth}

pub record Rows : Type 0 where
  -- by number
  pub productions : List Rule
  -- by state
  pub incoming : List (Option Symbol)
  pub defaults : List (Option ℕ)
  -- by state and terminal
  pub actions : List (List Action)
  -- by state and nonterminal
  pub gotos : List (List (Option ℕ))

-- the entry in row i at k; d beyond the rows
abbrev pub cell : {A : Type 0} → List (List A) → A → ℕ → ℕ → A
cell rows d i k = slice_index_or (slice_index_or rows i []) k d

-- the table that rows hold
abbrev pub automaton_of : Rows → Automaton
automaton_of R = record {
  grammar = nth R.productions;
  incoming = λ s. slice_index_or R.incoming s None;
  default = λ s. slice_index_or R.defaults s None;
  action = cell R.actions Reject;
  goto = cell R.gotos None;
}

-- AS THEY ARE STORED

-- a production without its right symbols
abbrev pub head_of : Rule → Production
head_of r = record { left = r.left; length = length r.right }

abbrev pub heads : List Rule → List Production
heads = map head_of

-- the right symbols of a production, filled up with none to a width
abbrev pub filled : ℕ → Rule → List (Option Symbol)
filled width r = map Some r.right ++ replicate (width - length r.right) None

abbrev pub right_rows : ℕ → List Rule → List (List (Option Symbol))
right_rows width = map (filled width)

-- rows are no wider than the numbers that a grammar has
abbrev pub WidthsFit : ℕ → ℕ → ℕ → Type 0
WidthsFit right by_terminal by_nonterminal =
    (right ≤ longest) × (by_terminal ≤ terminals) × (by_nonterminal ≤ nonterminals)
