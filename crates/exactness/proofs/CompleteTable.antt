-- The completeness tests of a lawful table and its hints pass exactly where it is complete under them.
use Rattle.std.proofs.Common.{◌≡◌, ℕ, zero, suc, ◌<◌, ◌≤◌, Bool, true, false, cond, ◌&&◌, T, eqb, ◌≢◌, ◌⊎◌, ◌↔◌, List, [], ◌∷◌, length, drop, Some, None, Option, sym, refl, ap, subst, subst₂, inl, inr, arith, lit<, eqb→eq}
use lib.Dec.{eqb_refl}
use Rattle.syntax.specs.declared.Symbol.{Symbol}
use Rattle.syntax.specs.declared.Symbol.TheVariants.{Terminal, Nonterminal}
use Rattle.syntax.specs.Grammar.{Rule, Grammar, start, terminals, productions, InRange, Every, Present}
use Rattle.table.specs.declared.Action.{Action}
use Rattle.table.specs.declared.Action.TheVariants.{Shift, Reduce, Accept, Reject}
use Rattle.table.specs.Automaton.{Automaton, decide}
use Rattle.table.specs.Lawful.{Lawful}
use Rattle.table.specs.Hints.{Set, ◌∈◌, ◌⊆◌, Hints, HintsLawful, added, right_of, right_side, Behind}
use Rattle.table.specs.Completeness.{nullable_symbol, first_symbol, nullable_all, first_of, wanted}
use Rattle.table.specs.Completeness.{Item, OneDotOn, SomeRight, Complete}
use Rattle.layout.specs.Choices.{given}
use Rattle.layout.specs.Checking.{reduces_by, accepts, shifts_to}
use Rattle.layout.specs.CompletenessTests.{rule_count, some_right, each_rule}
use Rattle.layout.specs.CompletenessTests.{equations_hold, items_closed, one_dot_on, item_complete, item_at}
use Rattle.layout.specs.CompletenessTests.{initial_item}
use Rattle.wellformed.proofs.Tests.{eq_T, T_and, T_or, none_some, some_same, given_T}
use Rattle.wellformed.proofs.Says.{Says, itself, says_as, both, if_so, split, equal, all_below, one_below, there_is}
use Rattle.exactness.proofs.Symbols.{every_drop, all_run}
use Rattle.wellformed.proofs.Sets.{says_same, Bounded, says_members, says_subset}

-- WHAT THE TESTS OF AN ACTION SAY

says_reduces : (p : ℕ) (x : Action) → Says (reduces_by p x) (x ≡ Reduce p)
says_reduces p x = record { to = go x; back = λ e. subst (λ y. T (reduces_by p y)) (sym e) (eqb_refl p) }
  where
    go : (x : Action) → T (reduces_by p x) → x ≡ Reduce p
    go (Shift t) h = absurd h
    go (Reduce q) h = ap {B = Action} Reduce (eqb→eq q p h)
    go Accept h = absurd h
    go Reject h = absurd h

says_accepts : (x : Action) → Says (accepts x) (x ≡ Accept)
says_accepts x = record { to = go x; back = λ e. subst (λ y. T (accepts y)) (sym e) tt }
  where
    go : (x : Action) → T (accepts x) → x ≡ Accept
    go (Shift t) h = absurd h
    go (Reduce q) h = absurd h
    go Accept h = refl
    go Reject h = absurd h

says_shifts : (x : Action) {f : ℕ → Bool} {Q : ℕ → Type 0} → ((t : ℕ) → Says (f t) (Q t)) →
    Says (shifts_to f x) ((t : ℕ) × (x ≡ Shift t) × Q t)
says_shifts x {f} {Q} s = record {
  to = go x;
  back = λ h. subst (λ y. T (shifts_to f y)) (sym h.1) ((s h.0).back h.2);
}
  where
    go : (x : Action) → T (shifts_to f x) → (t : ℕ) × (x ≡ Shift t) × Q t
    go (Shift t) h = (t, refl, (s t).to h)
    go (Reduce q) h = absurd h
    go Accept h = absurd h
    go Reject h = absurd h

-- of what is there, if anything is
says_if_found : {X : Type 0} {f : X → Bool} {Q : X → Type 0} → ((x : X) → Says (f x) (Q x)) → (o : Option X) →
    Says (given true f o) ((x : X) → o ≡ Some x → Q x)
says_if_found s None = record { to = λ h x e. absurd (none_some e); back = λ h. tt }
says_if_found {Q = Q} s (Some x) = record {
  to = λ h y e. subst Q (some_same e) ((s x).to h);
  back = λ h. (s x).back (h x refl);
}

pub says_and_then : {x y : Bool} {P Q : Type 0} → Says x P → Says y Q → Says (cond x y false) (P × Q)
says_and_then {x = true} p q = record { to = λ h. (p.to tt, q.to h); back = λ h. q.back h.1 }
says_and_then {x = false} p q = record { to = λ h. absurd h; back = λ h. p.back h.0 }

-- RIGHT SIDES

side_in_range : (g : Grammar) (p : ℕ) → ((r : Rule) → g p ≡ Some r → Every InRange r.right) → (α : List Symbol) →
    right_side g p ≡ Some α → Every InRange α
side_in_range g p rules α e = go (eqb p added) (g p) rules e
  where
    go : (t : Bool) (o : Option Rule) → ((r : Rule) → o ≡ Some r → Every InRange r.right) →
        cond t (Some (start ∷ [])) (right_of o) ≡ Some α → Every InRange α
    go true o rules e = subst (Every InRange) (some_same e) (lit< tt, tt)
    go false None rules e = absurd (none_some e)
    go false (Some r) rules e = subst (Every InRange) (some_same e) (rules r refl)

-- the added production has its dot at its end at 1
dot_at_end : (d : ℕ) (α : List Symbol) → start ∷ [] ≡ α → d ≤ length α → drop d α ≡ [] → d ≡ 1
dot_at_end d α e le end = go d (subst (λ β. d ≤ length β) (sym e) le) (subst (λ β. drop d β ≡ []) (sym e) end)
  where
    go : (d : ℕ) → d ≤ 1 → drop d (start ∷ []) ≡ [] → d ≡ 1
    go zero le h = let long = ap length h in absurd (omega arith)
    go (suc d) le h = omega arith

added_side : (g : Grammar) (p : ℕ) (α : List Symbol) → p ≡ added → right_side g p ≡ Some α → start ∷ [] ≡ α
added_side g p α is e = some_same (subst (λ q. right_side g q ≡ Some α) is e)

-- WHAT IS ASKED

module _ (M : Automaton) (H : Hints) where
  -- the equations of a nonterminal hold
  abbrev Solved : ℕ → Type 0
  Solved n =
      ((n ∈ H.nullable) ↔ SomeRight M.grammar n (λ α. T (nullable_all H α)))
      × ((a : ℕ) → (a ∈ H.firsts n) ↔ SomeRight M.grammar n (λ α. a ∈ first_of H α))

  -- the first items of the productions of n in s have what is wanted
  abbrev Closed : ℕ → ℕ → Set → Type 0
  Closed s n X = (q : ℕ) (r : Rule) → M.grammar q ≡ Some r → r.left ≡ n → X ⊆ H.look_aheads s q 0

  -- what is asked of an item, by what stands behind its dot
  abbrev ItemComplete : ℕ → ℕ → ℕ → List Symbol → Type 0
  ItemComplete s p d [] =
      (p ≡ added → 0 ∈ H.look_aheads s p d → decide M s 0 ≡ Accept)
      × (p ≢ added → (a : ℕ) → a ∈ H.look_aheads s p d → decide M s a ≡ Reduce p)
  ItemComplete s p d (Terminal b ∷ β) = (t : ℕ) × (decide M s b ≡ Shift t) × OneDotOn H s p d t
  ItemComplete s p d (Nonterminal n ∷ β) =
      Closed s n (wanted H β (H.look_aheads s p d)) × ((t : ℕ) → M.goto s n ≡ Some t → OneDotOn H s p d t)

  -- every test passes
  pub record CompletenessTested : Type 0 where
    pub equations : (n : ℕ) → n ∈ H.known → T (equations_hold M H n)
    pub items : (s p d : ℕ) → Item H s p d → T (item_at M H s p d)
    pub initial : T (initial_item M H)

module _ {n : ℕ} (M : Automaton) (H : Hints) (law : Lawful n M) (fit : HintsLawful M H) where
  -- TESTS OF PRODUCTIONS

  -- a production has a number below their count
  pub numbered : (p : ℕ) → Present (M.grammar p) → p < rule_count M.grammar
  unfolding rule_count
  numbered p (r, e) = all_run productions M.grammar law.rules_gapless p (law.rules p r e).number (r, e)

  pub says_right : (b : ℕ) (f : List Symbol → Bool) →
      Says (some_right M.grammar b f) (SomeRight M.grammar b (λ α. T (f α)))
  says_right b f =
      says_as
      (λ (p, lt, (r, e, (left, h))). (p, r, e, left, h))
      (λ (p, r, e, left, h). (p, numbered p (r, e), (r, e, (left, h))))
      (one_below (rule_count M.grammar) (λ p.
      there_is (λ r. says_and_then (equal r.left b) (itself (f r.right))) (M.grammar p)))

  pub says_each : (b : ℕ) {f : ℕ → Bool} {Q : ℕ → Type 0} → ((q : ℕ) → Says (f q) (Q q)) →
      Says (each_rule M.grammar b f) ((q : ℕ) (r : Rule) → M.grammar q ≡ Some r → r.left ≡ b → Q q)
  says_each b s =
      says_as
      (λ g q r e left. g q (numbered q (r, e)) r e (eq_T _ _ left))
      (λ g q lt r e left. g q r e (eqb→eq _ _ left))
      (all_below (rule_count M.grammar) (λ q.
      says_if_found (λ r. if_so (eqb r.left b) (s q)) (M.grammar q)))

  -- BOUNDS

  looks_bounded : (s p d : ℕ) → Bounded terminals (H.look_aheads s p d)
  looks_bounded s p d a h = (fit.items_fit s p d a h).terminal

  first_bounded : (α : List Symbol) → Every InRange α → Bounded terminals (first_of H α)
  first_bounded [] in_range a h = absurd h
  first_bounded (X ∷ α) in_range a h =
      go X in_range.0 (first_bounded α in_range.1 a) (T_or (first_symbol H X a) _ h)
    where
      go : (X : Symbol) → InRange X → (a ∈ first_of H α → a < terminals) →
          a ∈ first_symbol H X ⊎ T (nullable_symbol H X && first_of H α a) → a < terminals
      go (Terminal b) in_range rest (inl x) = subst (λ y. y < terminals) (eqb→eq b a x) in_range.1
      go (Nonterminal b) in_range rest (inl x) = (fit.first_kinds b a x).1
      go X in_range rest (inr x) = rest (T_and (nullable_symbol H X) _ x).1

  wanted_bounded : (β : List Symbol) (X : Set) → Every InRange β → Bounded terminals X →
      Bounded terminals (wanted H β X)
  wanted_bounded β X in_range few a h = go (T_or (first_of H β a) _ h)
    where
      go : a ∈ first_of H β ⊎ T (nullable_all H β && X a) → a < terminals
      go (inl x) = first_bounded β in_range a x
      go (inr x) = few a (T_and (nullable_all H β) _ x).1

  right_in_range : (p : ℕ) (r : Rule) → M.grammar p ≡ Some r → Every InRange r.right
  right_in_range p r e = (law.rules p r e).symbols

  behind_in_range : (p d : ℕ) (γ : List Symbol) → Behind M.grammar p d γ → Every InRange γ
  behind_in_range p d γ (α, e, is) =
      let side = side_in_range M.grammar p (right_in_range p) α e in
      subst (Every InRange) is (every_drop InRange d α side)

  -- THE EQUATIONS OF A NONTERMINAL

  says_equations : (b : ℕ) → Says (equations_hold M H b) (Solved M H b)
  says_equations b =
      let says_first : (a : ℕ) → Says _ _ =
      λ a. says_same (itself (H.firsts b a)) (says_right b (λ α. first_of H α a))
      in
      both
      (says_same (itself (H.nullable b)) (says_right b (nullable_all H)))
      (says_as
      (λ f a. (
        λ h. (f a (fit.first_kinds b a h).1).0 h,
        λ (p, r, e, left, h). (f a (first_bounded r.right (right_in_range p r e) a h)).1 (p, r, e, left, h),
      ))
      (λ f a lt. f a)
      (all_below terminals says_first))

  -- a number that is no nonterminal is in nothing
  solved_unknown : (b : ℕ) → (b ∈ H.known → ⊥) → Solved M H b
  solved_unknown b other = (
    (λ h. absurd (other (fit.nullable_names b h)), λ r. absurd (no_right _ r)),
    λ a. (λ h. absurd (other (fit.first_names b a h)), λ r. absurd (no_right _ r)),
  )
    where
      no_right : (Q : List Symbol → Type 0) → SomeRight M.grammar b Q → ⊥
      no_right Q (p, r, e, left, h) = other (subst (λ k. k ∈ H.known) left (fit.rule_names p r e).0)

  -- ITEMS

  module _ (s p d : ℕ) where
    abbrev Looks : Set
    Looks = H.look_aheads s p d

    says_one_on : (t : ℕ) → Says (one_dot_on M H p d Looks t) (OneDotOn H s p d t)
    says_one_on t = says_subset terminals Looks _ (looks_bounded s p d)

    says_closed : (b : ℕ) (β : List Symbol) → Every InRange β →
        Says (items_closed M H s b β Looks) (Closed M H s b (wanted H β Looks))
    says_closed b β in_range =
        says_each b (λ q. says_subset terminals (wanted H β Looks) (H.look_aheads s q 0)
        (wanted_bounded β Looks in_range (looks_bounded s p d)))

    says_item : (γ : List Symbol) → Every InRange γ → Says (item_complete M H s p d Looks γ) (ItemComplete M H s p d γ)
    says_item [] in_range =
        split (equal p added) (if_so (Looks 0) (says_accepts (decide M s 0)))
        (says_members terminals Looks (looks_bounded s p d) (λ a. says_reduces p (decide M s a)))
    says_item (Terminal b ∷ β) in_range = says_shifts (decide M s b) says_one_on
    says_item (Nonterminal b ∷ β) in_range =
        both (says_closed b β in_range.1) (says_if_found says_one_on (M.goto s b))

  -- THE THEOREM

  module _ (passed : CompletenessTested M H) where
    solved : (b : ℕ) → Solved M H b
    solved b = go (H.known b) refl
      where
        go : (t : Bool) → H.known b ≡ t → Solved M H b
        go true e = (says_equations b).to (passed.equations b (subst T (sym e) tt))
        go false e = solved_unknown b (λ h. subst T e h)

    item_passed : (s p d : ℕ) (γ : List Symbol) → Item H s p d → Behind M.grammar p d γ → ItemComplete M H s p d γ
    item_passed s p d γ item (α, e, is) =
        let at : List Symbol → Bool = item_complete M H s p d (H.look_aheads s p d) in
        (says_item s p d γ (behind_in_range p d γ (α, e, is))).to
        (subst (λ β. T (at β)) is (subst (λ o. T (given false (λ α. at (drop d α)) o)) e (passed.items s p d item)))

    pub complete_of_tests : Complete M H
    complete_of_tests = record {
      nullable_solved = λ b. (solved b).0;
      first_solved = λ b. (solved b).1;
      items_closed = λ s p d b β item behind. (item_passed s p d (Nonterminal b ∷ β) item behind).0;
      done_reduces = λ s p d a look other behind. (item_passed s p d [] (a, look) behind).1 other a look;
      terminal_shifts = λ s p d b β item behind. item_passed s p d (Terminal b ∷ β) item behind;
      goto_follows = λ s p d b t β item behind. (item_passed s p d (Nonterminal b ∷ β) item behind).1 t;
      initial_item = passed.initial;
      final_accepts = λ s look. (item_passed s added 1 [] (0, look) (start ∷ [], refl, refl)).0 refl look;
    }

  module _ (c : Complete M H) where
    item_holds : (s p d : ℕ) (α : List Symbol) → Item H s p d → right_side M.grammar p ≡ Some α → d ≤ length α →
        (γ : List Symbol) → drop d α ≡ γ → ItemComplete M H s p d γ
    item_holds s p d α item e le [] is = (
      λ is_added look.
          let end = dot_at_end d α (added_side M.grammar p α is_added e) le is in
          c.final_accepts s (subst₂ (λ q k. 0 ∈ H.look_aheads s q k) is_added end look),
      λ other a look. c.done_reduces s p d a look other (α, e, is),
    )
    item_holds s p d α item e le (Terminal b ∷ β) is = c.terminal_shifts s p d b β item (α, e, is)
    item_holds s p d α item e le (Nonterminal b ∷ β) is =
        (c.items_closed s p d b β item (α, e, is), λ t. c.goto_follows s p d b t β item (α, e, is))

    item_passes : (s p d : ℕ) → Item H s p d → T (item_at M H s p d)
    item_passes s p d item =
        let (α, e, le) = (fit.items_fit s p d item.0 item.1).dot_within in
        let in_range = behind_in_range p d (drop d α) (α, e, refl) in
        given_T (λ α. item_complete M H s p d (H.look_aheads s p d) (drop d α)) (right_side M.grammar p) α e
        ((says_item s p d (drop d α) in_range).back (item_holds s p d α item e le (drop d α) refl))

    pub tests_of_complete : CompletenessTested M H
    tests_of_complete = record {
      equations = λ b known. (says_equations b).back (c.nullable_solved b, c.first_solved b);
      items = item_passes;
      initial = c.initial_item;
    }
