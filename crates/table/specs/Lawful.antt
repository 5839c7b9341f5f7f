-- What a well-formed table keeps, apart from its being safe and complete.
use Rattle.std.specs.Prelude.{◌≡◌, ℕ, suc, ◌<◌, ◌≤◌, ◌⊎◌, length, Some, None}
use Rattle.syntax.specs.declared.Symbol.{Symbol}
use Rattle.syntax.specs.declared.Symbol.TheVariants.{Terminal, Nonterminal}
use Rattle.syntax.specs.Grammar.{Rule, terminals, nonterminals, productions, longest, InRange, Every, Present}
use Rattle.table.specs.declared.Action.TheVariants.{Shift, Reduce, Accept, Reject}
use Rattle.table.specs.Automaton.{Automaton}

-- how many states a table has at most
abbrev pub narrow : ℕ
narrow = 64

-- s is a state: the initial one, or one that a symbol enters
abbrev pub State : Automaton → ℕ → Type 0
State M s = (s ≡ 0) ⊎ Present (M.incoming s)

-- production number p has its parts in range
pub record RuleInRange (p : ℕ) (r : Rule) : Type 0 where
  pub number : p < productions
  pub left : r.left < nonterminals
  pub short : length r.right ≤ longest
  pub symbols : Every InRange r.right

pub record Lawful (states : ℕ) (M : Automaton) : Type 0 where
  -- productions are numbered from 0 without a gap, and there is one
  pub rules : (p : ℕ) (r : Rule) → M.grammar p ≡ Some r → RuleInRange p r
  pub first_rule : Present (M.grammar 0)
  pub rules_gapless : (p : ℕ) → Present (M.grammar (suc p)) → Present (M.grammar p)
  -- so are states, and the initial one is entered by nothing
  pub states_few : (s : ℕ) → State M s → s < states
  pub states_gapless : (s : ℕ) → State M (suc s) → State M s
  pub incoming_fits : (s : ℕ) (X : Symbol) → M.incoming s ≡ Some X → InRange X
  pub initial_bare : M.incoming 0 ≡ None
  -- an action or a goto stands in a state, names what is there, and leads to a state that its symbol enters
  pub default_known : (s p : ℕ) → M.default s ≡ Some p → State M s × Present (M.grammar p)
  pub default_alone : (s p a : ℕ) → M.default s ≡ Some p → M.action s a ≡ Reject
  pub shift_enters : (s a t : ℕ) → M.action s a ≡ Shift t →
      State M s × InRange (Terminal a) × (M.incoming t ≡ Some (Terminal a))
  pub reduce_known : (s a p : ℕ) → M.action s a ≡ Reduce p → State M s × (a < terminals) × Present (M.grammar p)
  pub accept_on_end : (s a : ℕ) → M.action s a ≡ Accept → State M s × (a ≡ 0)
  pub goto_enters : (s n t : ℕ) → M.goto s n ≡ Some t →
      State M s × (n < nonterminals) × (M.incoming t ≡ Some (Nonterminal n))
