-- A well-formed sheet holds a lawful table.
use Rattle.std.proofs.Common.{◌≡◌, ℕ, zero, suc, ◌-◌, ◌<◌, ◌≤◌, Bool, true, false, cond, T, eqb, ◌⊎◌, List, length, is_some, Some, None, Option, sym, refl, ap, ◌∙◌, subst, subst₂, inl, inr, ⊎_elim, arith}
use Rattle.std.proofs.lemmas.Bool.Decides.{nat_tests}
use Rattle.std.proofs.lemmas.Bool.{cases_eq}
use Rattle.syntax.specs.declared.Symbol.{Symbol}
use Rattle.syntax.specs.declared.Symbol.TheVariants.{Terminal, Nonterminal}
use Rattle.syntax.specs.Grammar.{Rule, InRange, Every, Present, terminals, nonterminals}
use Rattle.table.specs.declared.Action.{Action}
use Rattle.table.specs.declared.Action.TheVariants.{Shift, Reduce, Accept, Reject}
use Rattle.layout.specs.Opening.{opening}
use Rattle.table.specs.Lawful.{narrow, State, RuleInRange, Lawful}
use Rattle.layout.specs.declared.Letter.{Letter}
use Rattle.layout.specs.declared.Letter.TheVariants.{A, D, G, P, S}
use Rattle.layout.specs.Choices.{given, mapped, gather}
use Rattle.layout.specs.Records.{Sheet, sheet, record_at, byte, no_symbol, symbol, maybe_symbol}
use Rattle.layout.specs.Records.{rule_in, action_in}
use Rattle.layout.specs.Meaning.{placed, automaton}
use Rattle.wellformed.specs.Formed.{SymbolByte, Has, NoGap, NamesKnown, HasTarget, ActionMakesSense}
use Rattle.wellformed.specs.Formed.{MakesSenseAs, Formed, FormedIsLawful}
use Rattle.wellformed.proofs.Tests.{none_some, some_same, mapped_some}
use Rattle.wellformed.proofs.Formed.{formed_of}
use Rattle.wellformed.proofs.Rows.{Row, row_of, range_at, at_letter, placed_row}

-- SYMBOLS OF A RECORD

pub length_gather : {X : Type 0} (n : ℕ) (f : ℕ → X) → length (gather n f) ≡ n
unfolding gather
length_gather zero f = refl
length_gather (suc n) f = ap suc (length_gather n (λ k. f (suc k)))

pub every_gather : {X : Type 0} (Q : X → Type 0) (n : ℕ) (f : ℕ → X) → ((k : ℕ) → k < n → Q (f k)) → Every Q (gather n f)
unfolding gather
every_gather Q zero f h = tt
every_gather Q (suc n) f h = (h 0 (omega arith), every_gather Q n (λ k. f (suc k)) (λ k lt. h (suc k) (omega arith)))

pub symbol_in_range : (b : ℕ) → SymbolByte b → InRange (symbol b)
symbol_in_range b (inl (low, high)) =
    let e : symbol b ≡ Terminal b = grind (arith, nat_tests) in subst InRange (sym e) (low, high)
symbol_in_range b (inr (low, high)) =
    let e : symbol b ≡ Nonterminal (b - 64) = grind (arith, nat_tests) in
    let lt : b - 64 < nonterminals = omega arith in
    subst InRange (sym e) lt

some_symbol : (b : ℕ) → (b ≡ no_symbol → ⊥) → maybe_symbol b ≡ Some (symbol b)
some_symbol b other = go (eqb b no_symbol) (lib.Dec.eqb→eq b no_symbol)
  where
    go : (t : Bool) → (T t → b ≡ no_symbol) → cond t None (Some (symbol b)) ≡ Some (symbol b)
    go true s = absurd (other (s tt))
    go false s = refl

-- ANSWERS AND THEIR RECORDS

given_other : {X Y : Type 0} (y : Y) (f : X → Y) (o : Option X) (z : Y) → (y ≡ z → ⊥) → given y f o ≡ z →
    (x : X) × (o ≡ Some x) × (f x ≡ z)
given_other y f None z other e = absurd (other e)
given_other y f (Some x) z other e = (x, refl, e)

module _ (sh : Sheet) where
  pub rule_row : (p : ℕ) (r : Rule) → (automaton sh).grammar p ≡ Some r →
      (i : ℕ) × Row sh P p 0 0 i × (rule_in (record_at sh i) ≡ r)
  rule_row p r e =
      let (i, o, h) = mapped_some (λ i. rule_in (record_at sh i)) (placed sh P p 0 0) r e in (i, row_of sh P p 0 0 i o, h)

  pub incoming_row : (s : ℕ) (X : Symbol) → (automaton sh).incoming s ≡ Some X →
      (i : ℕ) × Row sh S s 0 0 i × (maybe_symbol (byte sh i 4) ≡ Some X)
  incoming_row s X e =
      let (i, o, h) = given_other None (λ i. maybe_symbol (byte sh i 4)) (placed sh S s 0 0) (Some X) none_some e in
      (i, row_of sh S s 0 0 i o, h)

  pub default_row : (s p : ℕ) → (automaton sh).default s ≡ Some p → (i : ℕ) × Row sh D s 0 0 i × (byte sh i 4 ≡ p)
  default_row s p e =
      let (i, o, h) = mapped_some (λ i. byte sh i 4) (placed sh D s 0 0) p e in (i, row_of sh D s 0 0 i o, h)

  pub action_row : (s a : ℕ) (x : Action) → (Reject ≡ x → ⊥) → (automaton sh).action s a ≡ x →
      (i : ℕ) × Row sh A s a 0 i × (action_in (record_at sh i) ≡ x)
  action_row s a x other e =
      let (i, o, h) = given_other Reject (λ i. action_in (record_at sh i)) (placed sh A s a 0) x other e in
      (i, row_of sh A s a 0 i o, h)

  pub goto_row : (s n t : ℕ) → (automaton sh).goto s n ≡ Some t → (i : ℕ) × Row sh G s n 0 i × (byte sh i 4 ≡ t)
  goto_row s n t e =
      let (i, o, h) = mapped_some (λ i. byte sh i 4) (placed sh G s n 0) t e in (i, row_of sh G s n 0 i o, h)

pub reject_shift : (t : ℕ) → Reject ≡ Shift t → ⊥
reject_shift t e = let z : ◌≡◌ {A = ℕ} 0 1 = cc in omega arith

pub reject_reduce : (p : ℕ) → Reject ≡ Reduce p → ⊥
reject_reduce p e = let z : ◌≡◌ {A = ℕ} 0 1 = cc in omega arith

pub reject_accept : Reject ≡ Accept → ⊥
reject_accept e = let z : ◌≡◌ {A = ℕ} 0 1 = cc in omega arith

-- in a numbering without a gap, the number before suc n is there
pub one_before : (Q : ℕ → Type 0) (m n : ℕ) → m ≡ suc n → (m ≡ 0) ⊎ Q (m - 1) → Q n
one_before Q m n e (inl z) = absurd (omega arith)
one_before Q m n e (inr h) = let back : m - 1 ≡ n = omega arith in subst Q back h

module _ (sh : Sheet) (w : Formed sh) where
  pub names_at : (l : Letter) (a b c i : ℕ) → Row sh l a b c i → NamesKnown sh (record_at sh i) l
  names_at l a b c i r = at_letter sh (NamesKnown sh) i l r.is_0 (w.names_known i r.within)

  pub gap_at : (l : Letter) (a b c i : ℕ) → Row sh l a b c i → NoGap sh (record_at sh i) l
  gap_at l a b c i r = at_letter sh (NoGap sh) i l r.is_0 (w.gapless i r.within)

  pub sense_at : (l : Letter) (a b c i : ℕ) → Row sh l a b c i → MakesSenseAs sh (record_at sh i) l
  sense_at l a b c i r = at_letter sh (MakesSenseAs sh) i l r.is_0 (w.makes_sense i r.within)

  -- STATES

  pub state_number : (s : ℕ) → Has sh S s 0 → s < sh.format.states
  state_number s (i, e) =
      let r = row_of sh S s 0 0 i e in
      subst (λ k. k < sh.format.states) r.is_1 (range_at sh w.sorted S i r.within r.is_0).0

  entered : (s : ℕ) → (s ≡ 0 → ⊥) → Has sh S s 0 → Present ((automaton sh).incoming s)
  entered s other (i, e) =
      let r = row_of sh S s 0 0 i e in
      let some = some_symbol (byte sh i 4) ((sense_at S s 0 0 i r).1 (λ z. other (sym r.is_1 ∙ z))) in
      (symbol (byte sh i 4), ap (given None (λ i. maybe_symbol (byte sh i 4))) e ∙ some)

  pub has_state : (s : ℕ) → Has sh S s 0 → State (automaton sh) s
  has_state s h = ⊎_elim inl (λ other. inr (entered s other h)) (cases_eq s 0)

  pub state_has : (s : ℕ) → Present ((automaton sh).incoming s) → Has sh S s 0
  state_has s (X, e) = let (i, r, h) = incoming_row sh s X e in (i, placed_row sh w.sorted S s 0 0 i r)

  states_gapless : (s : ℕ) → State (automaton sh) (suc s) → State (automaton sh) s
  states_gapless s (inl e) = absurd (omega arith)
  states_gapless s (inr x) =
      let (i, e) = state_has (suc s) x in
      let r = row_of sh S (suc s) 0 0 i e in
      has_state s (one_before (λ k. Has sh S k 0) (byte sh i 1) s r.is_1 (gap_at S (suc s) 0 0 i r))

  states_few : (s : ℕ) → State (automaton sh) s → s < sh.format.states
  states_few s (inl e) =
      let (i, lt, l) = w.some_state in let h = (range_at sh w.sorted S i lt l).0 in omega arith
  states_few s (inr x) = state_number s (state_has s x)

  incoming_fits : (s : ℕ) (X : Symbol) → (automaton sh).incoming s ≡ Some X → InRange X
  incoming_fits s X e =
      let (i, r, h) = incoming_row sh s X e in
      go (range_at sh w.sorted S i r.within r.is_0).1.1.0 h
    where
      go : {b : ℕ} → SymbolByte b ⊎ (b ≡ no_symbol) → maybe_symbol b ≡ Some X → InRange X
      go {b} (inl k) m =
          let other : b ≡ no_symbol → ⊥ = λ z. none_some (sym (ap maybe_symbol z) ∙ m) in
          subst InRange (some_same (sym (some_symbol b other) ∙ m)) (symbol_in_range b k)
      go (inr z) m = absurd (none_some (sym (ap maybe_symbol z) ∙ m))

  initial_bare : (automaton sh).incoming 0 ≡ None
  initial_bare = go (placed sh S 0 0 0) refl
    where
      go : (o : Option ℕ) → placed sh S 0 0 0 ≡ o → given None (λ i. maybe_symbol (byte sh i 4)) o ≡ None
      go None e = refl
      go (Some i) e =
          let r = row_of sh S 0 0 0 i e in ap maybe_symbol ((sense_at S 0 0 0 i r).0 r.is_1).0

  -- PRODUCTIONS

  pub has_rule : (p : ℕ) → Has sh P p 0 → Present ((automaton sh).grammar p)
  has_rule p (i, e) = (rule_in (record_at sh i), ap (mapped (λ i. rule_in (record_at sh i))) e)

  pub rule_has : (p : ℕ) → Present ((automaton sh).grammar p) → Has sh P p 0
  rule_has p (q, e) = let (i, r, h) = rule_row sh p q e in (i, placed_row sh w.sorted P p 0 0 i r)

  rules : (p : ℕ) (q : Rule) → (automaton sh).grammar p ≡ Some q → RuleInRange p q
  rules p q e =
      let (i, r, is) = rule_row sh p q e in
      let h = range_at sh w.sorted P i r.within r.is_0 in
      let n = byte sh i 5 in
      let fits = h.1.1.1.1 in
      let own : RuleInRange p (rule_in (record_at sh i)) = record {
        number = subst (λ k. k < 64) r.is_1 h.0;
        left = h.1.1.0;
        short = subst (λ k. k ≤ 8) (sym (length_gather n _)) fits.0;
        symbols = every_gather InRange n _ (λ k lt. symbol_in_range _ (fits.1.0 k lt));
      }
      in
      subst (RuleInRange p) is own

  before_rule : (p : ℕ) → Has sh P (suc p) 0 → Has sh P p 0
  before_rule p (i, e) =
      let r = row_of sh P (suc p) 0 0 i e in
      one_before (λ k. Has sh P k 0) (byte sh i 1) p r.is_1 (gap_at P (suc p) 0 0 i r)

  down_to_0 : (p : ℕ) → Has sh P p 0 → Has sh P 0 0
  down_to_0 zero h = h
  down_to_0 (suc p) h = down_to_0 p (before_rule p h)

  first_rule : Present ((automaton sh).grammar 0)
  first_rule =
      let (i, lt, l) = w.some_production in
      let z = (range_at sh w.sorted P i lt l).1.0 in
      let r : Row sh P (byte sh i 1) 0 0 i =
      record { within = lt; is_0 = l; is_1 = refl; is_2 = z 0 (omega arith); is_3 = z 1 (omega arith) }
      in
      has_rule 0 (down_to_0 (byte sh i 1) (i, placed_row sh w.sorted P _ 0 0 i r))

  -- ACTIONS AND GOTOS

  default_known : (s p : ℕ) → (automaton sh).default s ≡ Some p →
      State (automaton sh) s × Present ((automaton sh).grammar p)
  default_known s p e =
      let (i, r, h) = default_row sh s p e in
      let known = names_at D s 0 0 i r in
      (has_state s (subst (λ k. Has sh S k 0) r.is_1 known.0), has_rule p (subst (λ k. Has sh P k 0) h known.1))

  default_alone : (s p a : ℕ) → (automaton sh).default s ≡ Some p → (automaton sh).action s a ≡ Reject
  default_alone s p a e =
      let (i, r, h) = default_row sh s p e in go i (sense_at D s 0 0 i r) r.is_1 (placed sh A s a 0) refl
    where
      go : (i : ℕ) → MakesSenseAs sh (record_at sh i) D → byte sh i 1 ≡ s → (o : Option ℕ) → placed sh A s a 0 ≡ o →
          given Reject (λ i. action_in (record_at sh i)) o ≡ Reject
      go i alone is None e = refl
      go i alone is (Some j) e =
          let r = row_of sh A s a 0 j e in absurd (alone j r.within r.is_0 (r.is_1 ∙ sym is))

  action_known : (s a : ℕ) (x : Action) → (Reject ≡ x → ⊥) → (automaton sh).action s a ≡ x →
      State (automaton sh) s × (a < terminals) × HasTarget sh x × ActionMakesSense sh a x
  action_known s a x other e =
      let (i, r, h) = action_row sh s a x other e in
      let known = names_at A s a 0 i r in (
        has_state s (subst (λ k. Has sh S k 0) r.is_1 known.0),
        subst (λ k. k < terminals) r.is_2 (range_at sh w.sorted A i r.within r.is_0).1.0,
        subst (HasTarget sh) h known.1,
        subst₂ (ActionMakesSense sh) r.is_2 h (sense_at A s a 0 i r),
      )

  shift_enters : (s a t : ℕ) → (automaton sh).action s a ≡ Shift t →
      State (automaton sh) s × InRange (Terminal a) × ((automaton sh).incoming t ≡ Some (Terminal a))
  shift_enters s a t e =
      let (state, low, target, (other, in-t)) = action_known s a (Shift t) (reject_shift t) e in
      let from_1 : 1 ≤ a = ⊎_elim (λ z. absurd (other z)) (λ (z : a ≡ 0 → ⊥). omega arith) (cases_eq a 0) in
      (state, (from_1, low), in-t)

  goto_enters : (s n t : ℕ) → (automaton sh).goto s n ≡ Some t →
      State (automaton sh) s × (n < nonterminals) × ((automaton sh).incoming t ≡ Some (Nonterminal n))
  goto_enters s n t e =
      let (i, r, h) = goto_row sh s n t e in (
        has_state s (subst (λ k. Has sh S k 0) r.is_1 (names_at G s n 0 i r).0),
        subst (λ k. k < nonterminals) r.is_2 (range_at sh w.sorted G i r.within r.is_0).1.0,
        subst₂ (λ k u. (automaton sh).incoming u ≡ Some (Nonterminal k)) r.is_2 h (sense_at G s n 0 i r),
      )

  pub lawful : Lawful sh.format.states (automaton sh)
  lawful = record {
    rules = rules;
    first_rule = first_rule;
    rules_gapless = λ p h. has_rule p (before_rule p (rule_has (suc p) h));
    states_few = states_few;
    states_gapless = states_gapless;
    incoming_fits = incoming_fits;
    initial_bare = initial_bare;
    default_known = default_known;
    default_alone = default_alone;
    shift_enters = shift_enters;
    reduce_known = λ s a p e. let k = action_known s a (Reduce p) (reject_reduce p) e in (k.0, k.1, has_rule p k.2);
    accept_on_end = λ s a e. let k = action_known s a Accept reject_accept e in (k.0, k.3);
    goto_enters = goto_enters;
  }

pub formed_is_lawful : FormedIsLawful
formed_is_lawful sh w = lawful sh w

-- as a sheet that is held has it
pub lawful_of : (bs : List ℕ) → is_some (opening (sheet bs)) ≡ false → Lawful narrow (automaton (sheet bs))
lawful_of bs e = lawful (sheet bs) (formed_of (sheet bs) e)
