-- The safety tests of a lawful table and its hints pass exactly where it is safe under them.
use Rattle.std.proofs.Common.{◌≡◌, ℕ, ◌<◌, T, eqb, ◌↔◌, List, [], ◌∷◌, length, Some, sym, refl, ◌∙◌, subst, inl, inr, eqb→eq}
use Rattle.syntax.specs.Grammar.{Rule, start, Every, Present}
use Rattle.table.specs.declared.Action.{Action}
use Rattle.table.specs.declared.Action.TheVariants.{Shift, Reduce, Accept, Reject}
use Rattle.table.specs.Automaton.{Automaton, nth}
use Rattle.table.specs.Lawful.{Lawful}
use Rattle.table.specs.Hints.{Set, ◌∈◌, Hints, HintsLawful, trail, shadow}
use Rattle.table.specs.Safety.{Ends, Covers, Edge, Reduces, AllGo, GotosAt, Alone, Safe}
use Rattle.layout.specs.SafetyTests.{edge_safe, all_go, rule_safe, reduce_safe, initial_alone, accept_safe, action_safe}
use Rattle.wellformed.proofs.Tests.{eq_T, T_and, and_T, some_same}
use Rattle.wellformed.proofs.Says.{Says, says_as, both, never, equal, there, is_symbol}
use Rattle.exactness.proofs.Symbols.{every_map, every_nth}
use Rattle.wellformed.proofs.Sets.{Bounded, says_members, says_subset}
use Rattle.exactness.proofs.Sets.{found_says, says_covers, says_ends}

-- WHAT THE TESTS SAY

module _ (M : Automaton) (H : Hints) where
  -- s and t keep the conditions of an edge
  abbrev pub EdgeSafe : ℕ → ℕ → Type 0
  EdgeSafe s t = Ends (H.past_symbols t) (trail M H s) × Covers (H.past_sets t) (shadow H s)

  -- and s and a production those of a reduction
  abbrev pub RuleSafe : ℕ → Rule → Type 0
  RuleSafe s r = Ends r.right (trail M H s) × GotosAt M H s (length r.right) r.left

-- one set, of the initial state alone
abbrev InitialAlone : List Set → Type 0
InitialAlone xs = (X : Set) × (xs ≡ X ∷ []) × ((x : ℕ) → (x ∈ X) ↔ (x ≡ 0))

module _ (n : ℕ) (M : Automaton) (H : Hints) where
  -- every test passes
  pub record SafetyTested : Type 0 where
    pub edges : (s t : ℕ) → Edge M s t → T (edge_safe n M H s t)
    pub reductions : (s p : ℕ) → Reduces M s p → T (reduce_safe n M H s p)
    pub accepts : (s a : ℕ) → M.action s a ≡ Accept → T (accept_safe n M H s)

  -- each action passes its test
  pub action_tested : SafetyTested → (s a : ℕ) (x : Action) → M.action s a ≡ x → T (action_safe n M H s x)
  action_tested h s a (Shift t) e = h.edges s t (inl (a, e))
  action_tested h s a (Reduce p) e = h.reductions s p (inr (a, e))
  action_tested h s a Accept e = h.accepts s a e
  action_tested h s a Reject e = tt

  says_go : (X : Set) (b : ℕ) → Bounded n X → Says (all_go n M H X b) (AllGo M X b)
  says_go X b few = says_members n X few (λ s. there (M.goto s b))

  T_initial : (xs : List Set) → Every (Bounded n) xs → T (initial_alone n M H xs) → InitialAlone xs
  T_initial [] few h = absurd h
  T_initial (X ∷ []) few h =
      let (zero_in, others) = T_and _ _ h in
      let only = (says_subset n X (eqb 0) few.0).to others in
      (X, refl, λ x. (λ k. sym (eqb→eq 0 x (only x k)), λ e. subst (λ y. y ∈ X) (sym e) zero_in))
  T_initial (X ∷ Y ∷ xs) few h = absurd h

  initial_T : (xs : List Set) → Every (Bounded n) xs → InitialAlone xs → T (initial_alone n M H xs)
  initial_T xs few (X, e, only) =
      subst (λ ys. T (initial_alone n M H ys)) (sym e)
      (and_T _ _ ((only 0).1 refl)
      ((says_subset n X (eqb 0) (subst (Every (Bounded n)) e few).0).back (λ x k. eq_T 0 x (sym ((only x).0 k)))))

module _ (n : ℕ) (M : Automaton) (H : Hints) (law : Lawful n M) (fit : HintsLawful M H) where
  past_bounded : (s : ℕ) → Every (Bounded n) (H.past_sets s)
  past_bounded s =
      every_map {Q = Bounded n} (λ X p x h. law.states_few x (p.states x h)) (H.past_sets s) (fit.sets_fit s)

  shadow_bounded : (s : ℕ) → s < n → Every (Bounded n) (shadow H s)
  shadow_bounded s lt = (λ x h. subst (λ k. k < n) (eqb→eq s x h) lt, past_bounded s)

  says_edge : (s t : ℕ) → s < n → Says (edge_safe n M H s t) (EdgeSafe M H s t)
  says_edge s t lt = both (says_ends _ _) (says_covers _ _ _ (shadow_bounded s lt))

  says_rule : (s : ℕ) (r : Rule) → s < n → Says (rule_safe n M H s r) (RuleSafe M H s r)
  says_rule s r lt =
      let few = every_nth (Bounded n) (shadow H s) (length r.right) in
      both (says_ends _ _) (found_says (nth (shadow H s) (length r.right)) (λ X e.
      says_go n M H X r.left (few X (shadow_bounded s lt) e)))

  says_initial : (s : ℕ) → Says (initial_alone n M H (H.past_sets s)) (InitialAlone (H.past_sets s))
  says_initial s = record { to = T_initial n M H _ (past_bounded s); back = initial_T n M H _ (past_bounded s) }

  says_accept : (s : ℕ) → Says (accept_safe n M H s) (Alone M H s)
  says_accept s =
      says_as
      (λ h. record { not_initial = h.0; entered_by_start = h.1.0; initial_below = h.1.1 })
      (λ a. (a.not_initial, (a.entered_by_start, a.initial_below)))
      (both (never (equal s 0)) (both (is_symbol (M.incoming s) start) (says_initial s)))

  edge_from : (s t : ℕ) → Edge M s t → s < n
  edge_from s t (inl (a, e)) = law.states_few s (law.shift_enters s a t e).0
  edge_from s t (inr (b, e)) = law.states_few s (law.goto_enters s b t e).0

  reduce_from : (s p : ℕ) → Reduces M s p → (s < n) × Present (M.grammar p)
  reduce_from s p (inl e) = let (state, rule) = law.default_known s p e in (law.states_few s state, rule)
  reduce_from s p (inr (a, e)) = let (state, few, rule) = law.reduce_known s a p e in (law.states_few s state, rule)

  says_reduce : (s p : ℕ) → Reduces M s p →
      Says (reduce_safe n M H s p) ((r : Rule) → M.grammar p ≡ Some r → RuleSafe M H s r)
  says_reduce s p h =
      let (lt, (q, is)) = reduce_from s p h in
      says_as
      (λ (r, e, safe) r' e'. subst (RuleSafe M H s) (some_same (sym e ∙ e')) safe)
      (λ f. (q, is, f q is))
      (found_says (M.grammar p) (λ r e. says_rule s r lt))

  -- THE THEOREM

  pub safe_of_tests : SafetyTested n M H → Safe M H
  safe_of_tests passed =
      let edge : (s t : ℕ) → Edge M s t → EdgeSafe M H s t =
      λ s t h. (says_edge s t (edge_from s t h)).to (passed.edges s t h)
      in
      let rule : (s p : ℕ) (r : Rule) → Reduces M s p → M.grammar p ≡ Some r → RuleSafe M H s r =
      λ s p r h. (says_reduce s p h).to (passed.reductions s p h) r
      in
      record {
        edge_symbols = λ s t h. (edge s t h).0;
        edge_sets = λ s t h. (edge s t h).1;
        reduce_symbols = λ s p r h e. (rule s p r h e).0;
        reduce_gotos = λ s p r h e. (rule s p r h e).1;
        accept_alone = λ s a e. (says_accept s).to (passed.accepts s a e);
      }

  pub tests_of_safe : Safe M H → SafetyTested n M H
  tests_of_safe safe = record {
    edges = λ s t h. (says_edge s t (edge_from s t h)).back (safe.edge_symbols s t h, safe.edge_sets s t h);
    reductions = λ s p h.
        (says_reduce s p h).back (λ r e. (safe.reduce_symbols s p r h e, safe.reduce_gotos s p r h e));
    accepts = λ s a e. (says_accept s).back (safe.accept_alone s a e);
  }
