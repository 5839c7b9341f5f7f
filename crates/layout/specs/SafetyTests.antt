-- The safety conditions as tests of a table and its hints, by state, production and action; n bounds the states.
use Rattle.std.specs.Prelude.{ℕ, Bool, true, false, not, ◌&&◌, List, [], ◌∷◌, length, ◌==◌, nat_eq}
use Rattle.syntax.specs.Grammar.{Rule, start}
use Rattle.table.specs.declared.Action.{Action}
use Rattle.table.specs.declared.Action.TheVariants.{Shift, Reduce, Accept, Reject}
use Rattle.table.specs.Automaton.{Automaton, nth}
use Rattle.table.specs.Hints.{Set, Hints, trail, shadow}
use Rattle.layout.specs.Choices.{given, present, implies, below}
use Rattle.layout.specs.Opening.{same_symbol}
use Rattle.layout.specs.Checking.{subset, ends, covers}

module _ (n : ℕ) (M : Automaton) (H : Hints) where
  -- a shift or goto from s to t respects the past of t
  abbrev pub edge_safe : ℕ → ℕ → Bool
  edge_safe s t = ends (H.past_symbols t) (trail M H s) && covers n (H.past_sets t) (shadow H s)

  -- every state of X has a goto on nonterminal b
  abbrev pub all_go : Set → ℕ → Bool
  all_go X b = below n (λ s. let y = present (M.goto s b) in implies (X s) y)

  -- the right side lies on top in s, and whatever lies below it has the goto
  abbrev pub rule_safe : ℕ → Rule → Bool
  rule_safe s r =
      ends r.right (trail M H s) && given false (λ X. all_go X r.left) (nth (shadow H s) (length r.right))

  abbrev pub reduce_safe : ℕ → ℕ → Bool
  reduce_safe s p = given false (rule_safe s) (M.grammar p)

  -- one set, which holds the initial state and no other
  abbrev pub initial_alone : List Set → Bool
  initial_alone [] = false
  initial_alone (X ∷ []) = X 0 && subset n X (nat_eq 0)
  initial_alone (X ∷ Y ∷ xs) = false

  -- an accepting state has one start below it and nothing else
  abbrev pub accept_safe : ℕ → Bool
  accept_safe s =
      not (s == 0)
      && (given false (λ X. same_symbol X start) (M.incoming s) && initial_alone (H.past_sets s))

  abbrev pub action_safe : ℕ → Action → Bool
  action_safe s (Shift t) = edge_safe s t
  action_safe s (Reduce p) = reduce_safe s p
  action_safe s Accept = accept_safe s
  action_safe s Reject = true
