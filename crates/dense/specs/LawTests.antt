-- What a lawful table keeps, as tests of all entries of its rows.
use Rattle.std.specs.Prelude.{ℕ, suc, ◌-◌, Bool, true, false, not, ◌&&◌, ◌||◌, List, [], ◌∷◌, length, ◌==◌, nat_le, nat_lt, slice_index_or}
use Rattle.syntax.specs.declared.Symbol.{Symbol}
use Rattle.syntax.specs.declared.Symbol.TheVariants.{Terminal, Nonterminal}
use Rattle.syntax.specs.Grammar.{Rule, terminals, nonterminals, productions, longest}
use Rattle.table.specs.declared.Action.{Action}
use Rattle.table.specs.declared.Action.TheVariants.{Shift, Reduce, Accept, Reject}
use Rattle.table.specs.Automaton.{Automaton}
use Rattle.table.specs.Lawful.{narrow}
use Rattle.layout.specs.Choices.{given, present, every}
use Rattle.layout.specs.Opening.{same_symbol}
use Rattle.dense.specs.Rows.{Rows, automaton_of}

-- each entry passes the test of its index
unfoldable pub each_at : {A : Type 0} → (ℕ → A → Bool) → List A → Bool
each_at f [] = true
each_at f (x ∷ xs) = f 0 x && each_at (λ k. f (suc k)) xs

-- each entry of each row passes the test of its two indices
abbrev pub each_cell : {A : Type 0} → (ℕ → ℕ → A → Bool) → List (List A) → Bool
each_cell f = each_at (λ i. each_at (f i))

-- a terminal that can be the kind of a token
abbrev pub kind_fits : ℕ → Bool
kind_fits a = nat_le 1 a && nat_lt a terminals

abbrev pub symbol_fits : Symbol → Bool
symbol_fits (Terminal a) = kind_fits a
symbol_fits (Nonterminal n) = nat_lt n nonterminals

abbrev pub rule_fits : ℕ → Rule → Bool
rule_fits p r =
    nat_lt p productions
    && (nat_lt r.left nonterminals && (nat_le (length r.right) longest && every symbol_fits r.right))

abbrev pub rejects : Action → Bool
rejects (Shift t) = false
rejects (Reduce p) = false
rejects Accept = false
rejects Reject = true

module _ (M : Automaton) where
  -- s is the initial state, or a symbol enters it
  abbrev pub is_state : ℕ → Bool
  is_state s = s == 0 || present (M.incoming s)

  -- symbol X enters state t
  abbrev pub enters : Symbol → ℕ → Bool
  enters X t = given false (λ Y. same_symbol Y X) (M.incoming t)

  -- X enters s: another state than the initial one, and there is one before it
  abbrev pub entry_fits : ℕ → Symbol → Bool
  entry_fits s X = nat_lt s narrow && (not (s == 0) && (is_state (s - 1) && symbol_fits X))

  -- s does x before terminal a
  abbrev pub action_fits : ℕ → ℕ → Action → Bool
  action_fits s a (Shift t) = is_state s && (kind_fits a && enters (Terminal a) t)
  action_fits s a (Reduce p) = is_state s && (nat_lt a terminals && present (M.grammar p))
  action_fits s a Accept = is_state s && a == 0
  action_fits s a Reject = true

  -- s goes to t on nonterminal n
  abbrev pub goto_fits : ℕ → ℕ → ℕ → Bool
  goto_fits s n t = is_state s && (nat_lt n nonterminals && enters (Nonterminal n) t)

module _ (R : Rows) where
  -- s reduces p without a look, and has no other action
  abbrev pub default_fits : ℕ → ℕ → Bool
  default_fits s p =
      is_state (automaton_of R) s
      && (present ((automaton_of R).grammar p) && each_at (λ a. rejects) (slice_index_or R.actions s []))

  -- the whole table
  abbrev pub lawful_rows : Bool
  lawful_rows =
      (present ((automaton_of R).grammar 0) && each_at rule_fits R.productions)
      && (each_at (λ s. given true (entry_fits (automaton_of R) s)) R.incoming
      && (each_at (λ s. given true (default_fits s)) R.defaults
      && (each_cell (action_fits (automaton_of R)) R.actions
      && each_cell (λ s n. given true (goto_fits (automaton_of R) s n)) R.gotos)))
