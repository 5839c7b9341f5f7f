-- Rows that pass the test of their law hold a lawful table.
use Rattle.std.proofs.Common.{◌≡◌, ℕ, suc, ◌-◌, ◌<◌, Bool, ◌&&◌, T, [], length, get_or, Some, None, Option, sym, refl, subst, inl, inr, arith}
use Rattle.syntax.specs.declared.Symbol.{Symbol}
use Rattle.syntax.specs.declared.Symbol.TheVariants.{Terminal, Nonterminal}
use Rattle.syntax.specs.Grammar.{Rule, terminals, nonterminals, productions, longest, Kind, InRange, Present}
use Rattle.table.specs.declared.Action.{Action}
use Rattle.table.specs.declared.Action.TheVariants.{Shift, Reduce, Accept, Reject}
use Rattle.table.specs.Automaton.{Automaton}
use Rattle.table.specs.Lawful.{narrow, State, RuleInRange, Lawful}
use Rattle.wellformed.proofs.Tests.{T_and}
use Rattle.wellformed.proofs.Says.{Says, itself, says_as, both, either, never, less, at_most, equal, each, there, is_symbol}
use Rattle.dense.specs.Rows.{Rows, automaton_of}
use Rattle.dense.specs.LawTests.{each_at, kind_fits, symbol_fits, rule_fits, rejects, is_state, entry_fits}
use Rattle.dense.specs.LawTests.{action_fits, goto_fits, default_fits, lawful_rows}
use Rattle.dense.specs.Theorems.{TestedIsLawful}
use Rattle.dense.proofs.Entries.{nth_gapless, at_each, at_each_cell, at_found, some_at, some_cell}

-- WHAT THE TESTS SAY

pub three : {x y z : Bool} {P Q S : Type 0} → Says x P → Says y Q → Says z S → Says (x && (y && z)) (P × Q × S)
three f g h = says_as (λ (p, rest). (p, rest.0, rest.1)) (λ (p, q, s). (p, (q, s))) (both f (both g h))

pub says_kind : (a : ℕ) → Says (kind_fits a) (Kind a)
says_kind a = both (at_most 1 a) (less a terminals)

pub says_symbol : (X : Symbol) → Says (symbol_fits X) (InRange X)
says_symbol (Terminal a) = says_kind a
says_symbol (Nonterminal n) = less n nonterminals

rule_in_range : (p : ℕ) (r : Rule) → T (rule_fits p r) → RuleInRange p r
rule_in_range p r h =
    let (number, (left, (short, symbols))) =
    (both (less p productions) (both (less r.left nonterminals)
    (both (at_most (length r.right) longest) (each says_symbol r.right)))).to h
    in
    record { number = number; left = left; short = short; symbols = symbols }

is_reject : (x : Action) → T (rejects x) → x ≡ Reject
is_reject (Shift t) h = absurd h
is_reject (Reduce p) h = absurd h
is_reject Accept h = absurd h
is_reject Reject h = refl

module _ (M : Automaton) where
  pub says_state : (s : ℕ) → Says (is_state M s) (State M s)
  says_state s = either (equal s 0) (there (M.incoming s))

  says_entry : (s : ℕ) (X : Symbol) →
      Says (entry_fits M s X) ((s < narrow) × ((s ≡ 0 → ⊥) × (State M (s - 1) × InRange X)))
  says_entry s X = both (less s narrow) (both (never (equal s 0)) (both (says_state (s - 1)) (says_symbol X)))

  says_shift : (s a t : ℕ) →
      Says (action_fits M s a (Shift t)) (State M s × Kind a × (M.incoming t ≡ Some (Terminal a)))
  says_shift s a t = three (says_state s) (says_kind a) (is_symbol (M.incoming t) (Terminal a))

  says_reduce : (s a p : ℕ) →
      Says (action_fits M s a (Reduce p)) (State M s × (a < terminals) × Present (M.grammar p))
  says_reduce s a p = three (says_state s) (less a terminals) (there (M.grammar p))

  says_accept : (s a : ℕ) → Says (action_fits M s a Accept) (State M s × (a ≡ 0))
  says_accept s a = both (says_state s) (equal a 0)

  says_goto : (s n t : ℕ) →
      Says (goto_fits M s n t) (State M s × (n < nonterminals) × (M.incoming t ≡ Some (Nonterminal n)))
  says_goto s n t = three (says_state s) (less n nonterminals) (is_symbol (M.incoming t) (Nonterminal n))

-- THE THEOREM

module _ (R : Rows) where
  -- what the test says of any index
  pub record LawTested : Type 0 where
    pub rules : (p : ℕ) (r : Rule) → (automaton_of R).grammar p ≡ Some r → T (rule_fits p r)
    pub first_rule : Present ((automaton_of R).grammar 0)
    pub entries : (s : ℕ) (X : Symbol) → (automaton_of R).incoming s ≡ Some X → T (entry_fits (automaton_of R) s X)
    pub defaults : (s p : ℕ) → (automaton_of R).default s ≡ Some p → T (default_fits R s p)
    pub actions : (s a : ℕ) (x : Action) → (automaton_of R).action s a ≡ x → T (action_fits (automaton_of R) s a x)
    pub gotos : (s n t : ℕ) → (automaton_of R).goto s n ≡ Some t → T (goto_fits (automaton_of R) s n t)

  pub law_tested : T (lawful_rows R) → LawTested
  law_tested passed =
      let (grammar, parts) = T_and _ _ passed in
      let (some-rule, rules) = T_and _ _ grammar in
      let (entries, moves) = T_and _ _ parts in
      let (defaults, tokens) = T_and _ _ moves in
      let (actions, gotos) = T_and _ _ tokens in
      record {
        rules = at_found rule_fits R.productions rules;
        first_rule = (there ((automaton_of R).grammar 0)).to some-rule;
        entries = some_at (entry_fits (automaton_of R)) R.incoming entries;
        defaults = some_at (default_fits R) R.defaults defaults;
        actions = λ s a x e.
            subst (λ y. T (action_fits (automaton_of R) s a y)) e
            (at_each_cell (action_fits (automaton_of R)) R.actions Reject actions (λ i k. tt) s a);
        gotos = some_cell (goto_fits (automaton_of R)) R.gotos gotos;
      }

module _ (R : Rows) (h : LawTested R) where
  entered : (s : ℕ) (X : Symbol) → (automaton_of R).incoming s ≡ Some X →
      (s < narrow) × ((s ≡ 0 → ⊥) × (State (automaton_of R) (s - 1) × InRange X))
  entered s X e = (says_entry (automaton_of R) s X).to (h.entries s X e)

  states_few : (s : ℕ) → State (automaton_of R) s → s < narrow
  states_few s (inl e) = omega arith
  states_few s (inr (X, e)) = (entered s X e).0

  states_gapless : (s : ℕ) → State (automaton_of R) (suc s) → State (automaton_of R) s
  states_gapless s (inl e) = absurd (omega arith)
  states_gapless s (inr (X, e)) = subst (State (automaton_of R)) (omega arith) (entered (suc s) X e).1.1.0

  initial_bare : (automaton_of R).incoming 0 ≡ None
  initial_bare = go ((automaton_of R).incoming 0) refl
    where
      go : (o : Option Symbol) → (automaton_of R).incoming 0 ≡ o → o ≡ None
      go None e = refl
      go (Some X) e = absurd ((entered 0 X e).1.0 refl)

  reduced : (s p : ℕ) → (automaton_of R).default s ≡ Some p →
      State (automaton_of R) s
      × Present ((automaton_of R).grammar p)
      × T (each_at (λ a. rejects) (get_or R.actions s []))
  reduced s p e =
      (three (says_state (automaton_of R) s) (there ((automaton_of R).grammar p)) (itself _)).to (h.defaults s p e)

  pub lawful : Lawful narrow (automaton_of R)
  lawful = record {
    rules = λ p r e. rule_in_range p r (h.rules p r e);
    first_rule = h.first_rule;
    rules_gapless = nth_gapless R.productions;
    states_few = states_few;
    states_gapless = states_gapless;
    incoming_fits = λ s X e. (entered s X e).1.1.1;
    initial_bare = initial_bare;
    default_known = λ s p e. let (state, rule, alone) = reduced s p e in (state, rule);
    default_alone = λ s p a e.
        is_reject _ (at_each (λ a. rejects) (get_or R.actions s []) Reject (reduced s p e).2 (λ k. tt) a);
    shift_enters = λ s a t e. (says_shift (automaton_of R) s a t).to (h.actions s a (Shift t) e);
    reduce_known = λ s a p e. (says_reduce (automaton_of R) s a p).to (h.actions s a (Reduce p) e);
    accept_on_end = λ s a e. (says_accept (automaton_of R) s a).to (h.actions s a Accept e);
    goto_enters = λ s n t e. (says_goto (automaton_of R) s n t).to (h.gotos s n t e);
  }

pub tested_is_lawful : TestedIsLawful
tested_is_lawful R e = lawful R (law_tested R (subst T (sym e) tt))
