-- Rows of hints that pass their test hold lawful hints.
use Rattle.std.proofs.Common.{◌≡◌, ℕ, suc, ◌<◌, ◌≤◌, Bool, true, false, cond, ◌&&◌, T, eqb, ◌⊎◌, List, [], ◌∷◌, map, length, get_or, Some, sym, refl, ap, subst, subst₂, inl, inr, ⊎_elim, eqb→eq}
use lib.Dec.{eqb_refl}
use Rattle.std.proofs.lemmas.List.{length-map}
use Rattle.syntax.specs.declared.Symbol.{Symbol}
use Rattle.syntax.specs.declared.Symbol.TheVariants.{Terminal, Nonterminal}
use Rattle.syntax.specs.Grammar.{Rule, terminals, nonterminals, Kind, InRange, Every}
use Rattle.table.specs.Automaton.{Automaton, nth}
use Rattle.table.specs.Lawful.{State}
use Rattle.table.specs.Hints.{◌∈◌, Occupied, Hints, Known, deepest, right_side, PastSet, LookAhead}
use Rattle.table.specs.Hints.{HintsLawful}
use Rattle.layout.specs.Choices.{every}
use Rattle.wellformed.proofs.Tests.{T_and, T_or, or_T, T_present, present_T, T_given, in_found}
use Rattle.wellformed.proofs.Says.{Says, itself, always, both, either, never, less, at_most, equal, each, there_is}
use Rattle.exactness.proofs.Symbols.{every_map}
use Rattle.dense.specs.Rows.{Rows, automaton_of}
use Rattle.dense.specs.HintRows.{ItemRow, NameRow, HintRows, listed, looks_of, hints_of}
use Rattle.dense.specs.ValidityTests.{empty, past_short, name_fits, known_symbol, known_rule, past_symbols_fit}
use Rattle.dense.specs.ValidityTests.{set_fits, past_sets_fit, item_fits, lawful_hint_rows}
use Rattle.dense.proofs.Entries.{nth_gapless, at_each, at_found, some_at, some_cell}
use Rattle.dense.proofs.Lawful.{three, says_kind, says_symbol, says_state}

-- SETS AS LISTS

pub in_listed : (Q : ℕ → Type 0) (xs : List ℕ) → Every Q xs → (x : ℕ) → x ∈ listed xs → Q x
unfolding listed
in_listed Q [] all x h = absurd h
in_listed Q (y ∷ ys) all x h =
    ⊎_elim (λ e. subst Q (eqb→eq y x e) all.0) (in_listed Q ys all.1 x) (T_or (eqb y x) _ h)

some_listed : (xs : List ℕ) → (xs ≡ [] → ⊥) → Occupied (listed xs)
unfolding listed
some_listed [] other = absurd (other refl)
some_listed (y ∷ ys) other = (y, or_T (eqb y y) _ (inl (eqb_refl y)))

module _ {A B : Type 0} where
  every_mapped : (f : A → B) (Q : B → Type 0) (xs : List A) → Every (λ x. Q (f x)) xs → Every Q (map f xs)
  every_mapped f Q [] all = tt
  every_mapped f Q (x ∷ xs) all = (all.0, every_mapped f Q xs all.1)

-- ITEMS AND NONTERMINALS

-- what holds of each item of a row, of an item that has a look-ahead
pub in_looks : (Q : ItemRow → Type 0) (is : List ItemRow) → Every Q is → (p d a : ℕ) → a ∈ listed (looks_of is p d) →
    (i : ItemRow) × (i.production ≡ p) × (i.dot ≡ d) × Q i × (a ∈ listed i.looks)
unfolding listed looks_of
in_looks Q [] all p d a h = absurd h
in_looks Q (i ∷ is) all p d a h =
    go (eqb i.production p && eqb i.dot d) (both (equal i.production p) (equal i.dot d)).to h
    (in_looks Q is all.1 p d a)
  where
    Found : Type 0
    Found = (i : ItemRow) × (i.production ≡ p) × (i.dot ≡ d) × Q i × (a ∈ listed i.looks)

    go : (t : Bool) → (T t → (i.production ≡ p) × (i.dot ≡ d)) → a ∈ listed (cond t i.looks (looks_of is p d)) →
        (a ∈ listed (looks_of is p d) → Found) → Found
    go true same k later = (i, (same tt).0, (same tt).1, all.0, k)
    go false same k later = later k

-- WHAT THE TESTS SAY

says_empty : {A : Type 0} (xs : List A) → Says (empty xs) (xs ≡ [])
says_empty [] = record { to = λ h. refl; back = λ e. tt }
says_empty (x ∷ xs) = record { to = λ h. absurd h; back = λ e. subst (λ ys. T (nonempty ys)) e tt }
  where
    nonempty : {A : Type 0} → List A → Bool
    nonempty [] = false
    nonempty (x ∷ xs) = true

says_short : {A : Type 0} (s : ℕ) (xs : List A) →
    Says (past_short s xs) ((length xs ≤ deepest) × ((xs ≡ []) ⊎ (s ≡ 0 → ⊥)))
says_short s xs = both (at_most (length xs) deepest) (either (says_empty xs) (never (equal s 0)))

-- the initial state has no past
initial_empty : {A : Type 0} (s : ℕ) (xs : List A) → s ≡ 0 → (xs ≡ []) ⊎ (s ≡ 0 → ⊥) → xs ≡ []
initial_empty s xs is (inl e) = e
initial_empty s xs is (inr other) = absurd (other is)

says_known : (H : Hints) (X : Symbol) → Says (known_symbol H X) (Known H X)
says_known H (Terminal a) = always
says_known H (Nonterminal n) = itself (H.known n)

past_set : (M : Automaton) (s : ℕ) (xs : List ℕ) → T (set_fits M s xs) → PastSet M s (listed xs)
past_set M s xs h =
    let (state, some, states) = (three (says_state M s) (never (says_empty xs)) (each (says_state M) xs)).to h in
    record { of_state = state; occupied = some_listed xs some; states = in_listed (State M) xs states }

abbrev ItemFits : Automaton → ℕ → ItemRow → Type 0
ItemFits M s i =
    State M s
    × ((α : List Symbol) × (right_side M.grammar i.production ≡ Some α) × (i.dot ≤ length α))
    × Every (λ a. a < terminals) i.looks

says_item : (M : Automaton) (s : ℕ) (i : ItemRow) → Says (item_fits M s i) (ItemFits M s i)
says_item M s i =
    three (says_state M s) (there_is (λ α. at_most i.dot (length α)) (right_side M.grammar i.production))
    (each (λ a. less a terminals) i.looks)

-- THE LAW

module _ (R : Rows) (H : HintRows) where
  -- what the test says of any index
  pub record HintsTested : Type 0 where
    pub start_known : T ((hints_of H).known 0)
    pub names : (n : ℕ) (x : NameRow) → nth H.names n ≡ Some x → (n < nonterminals) × Every Kind x.firsts
    pub rules : (p : ℕ) (r : Rule) → (automaton_of R).grammar p ≡ Some r → T (known_rule (hints_of H) r)
    pub incoming : (s : ℕ) (X : Symbol) → (automaton_of R).incoming s ≡ Some X → T (known_symbol (hints_of H) X)
    pub gotos : (s n t : ℕ) → (automaton_of R).goto s n ≡ Some t → n ∈ (hints_of H).known
    pub past_symbols : (s : ℕ) → T (past_symbols_fit (hints_of H) s (get_or H.past_symbols s []))
    pub past_sets : (s : ℕ) → T (past_sets_fit (automaton_of R) s (get_or H.past_sets s []))
    pub items : (s : ℕ) → Every (ItemFits (automaton_of R) s) (get_or H.items s [])

  pub hints_tested : T (lawful_hint_rows R H) → HintsTested
  unfolding every
  hints_tested passed =
      let (all-names, parts) = T_and _ _ passed in
      let (start, names) = T_and _ _ all-names in
      let (named, past) = T_and _ _ parts in
      let (rules, entered) = T_and _ _ named in
      let (incoming, gotos) = T_and _ _ entered in
      let (symbols, below) = T_and _ _ past in
      let (sets, items) = T_and _ _ below in
      record {
        start_known = start;
        names = λ n x e.
            (both (less n nonterminals) (each says_kind x.firsts)).to (at_found name_fits H.names names n x e);
        rules = at_found (λ p. known_rule (hints_of H)) R.productions rules;
        incoming = some_at (λ s. known_symbol (hints_of H)) R.incoming incoming;
        gotos = some_cell (λ s n t. (hints_of H).known n) R.gotos gotos;
        past_symbols = at_each (past_symbols_fit (hints_of H)) H.past_symbols [] symbols (λ s. tt);
        past_sets = at_each (past_sets_fit (automaton_of R)) H.past_sets [] sets (λ s. tt);
        items = λ s.
            (each (says_item (automaton_of R) s) (get_or H.items s [])).to
            (at_each (λ s. every (item_fits (automaton_of R) s)) H.items [] items (λ s. tt) s);
      }

module _ (R : Rows) (H : HintRows) (h : HintsTested R H) where
  -- a state's past
  symbols_of : (s : ℕ) →
      ((length ((hints_of H).past_symbols s) ≤ deepest) × (((hints_of H).past_symbols s ≡ []) ⊎ (s ≡ 0 → ⊥)))
      × Every (Known (hints_of H)) ((hints_of H).past_symbols s)
      × Every InRange ((hints_of H).past_symbols s)
  symbols_of s =
      (three (says_short s ((hints_of H).past_symbols s)) (each (says_known (hints_of H)) ((hints_of H).past_symbols s))
      (each says_symbol ((hints_of H).past_symbols s))).to (h.past_symbols s)

  sets_of : (s : ℕ) → let xs = get_or H.past_sets s [] in
      ((length xs ≤ deepest) × ((xs ≡ []) ⊎ (s ≡ 0 → ⊥))) × Every (λ x. T (set_fits (automaton_of R) s x)) xs
  sets_of s =
      (both (says_short s (get_or H.past_sets s [])) (each (λ x. itself (set_fits (automaton_of R) s x)) _)).to
      (h.past_sets s)

  named : (n : ℕ) → n ∈ (hints_of H).known → (x : NameRow) × (nth H.names n ≡ Some x)
  named n = T_present (nth H.names n)

  first_in : (n a : ℕ) → a ∈ (hints_of H).firsts n →
      (x : NameRow) × (nth H.names n ≡ Some x) × (a ∈ listed x.firsts)
  first_in n a = in_found (λ x. listed x.firsts) (nth H.names n) a

  look_ahead : (s p d a : ℕ) → a ∈ (hints_of H).look_aheads s p d → LookAhead (automaton_of R) s p d a
  look_ahead s p d a k =
      let (i, is-p, is-d, (state, dot, looks), look) =
      in_looks (ItemFits (automaton_of R) s) (get_or H.items s []) (h.items s) p d a k
      in
      record {
        of_state = state;
        dot_within =
            subst₂ (λ q e. (α : List Symbol) × (right_side (automaton_of R).grammar q ≡ Some α) × (e ≤ length α))
            is-p is-d dot;
        terminal = in_listed (λ a. a < terminals) i.looks looks a look;
      }

  pub hints_lawful : HintsLawful (automaton_of R) (hints_of H)
  hints_lawful = record {
    known_few = λ n k. let (x, e) = named n k in (h.names n x e).0;
    known_gapless = λ n k. let (x, e) = nth_gapless H.names n (named (suc n) k) in present_T _ x e;
    start_known = h.start_known;
    rule_names = λ p r e.
        (both (itself ((hints_of H).known r.left)) (each (says_known (hints_of H)) r.right)).to (h.rules p r e);
    incoming_names = λ s X e. (says_known (hints_of H) X).to (h.incoming s X e);
    goto_names = h.gotos;
    past_names = λ s. (symbols_of s).1;
    nullable_names = λ n k. let (x, e, t) = T_given (λ x. x.nullable) (nth H.names n) k in present_T _ x e;
    first_names = λ n a k. let (x, e, t) = first_in n a k in present_T _ x e;
    first_kinds = λ n a k. let (x, e, t) = first_in n a k in in_listed Kind x.firsts (h.names n x e).1 a t;
    symbols_few = λ s. (symbols_of s).0.0;
    symbols_fit = λ s. (symbols_of s).2;
    sets_few = λ s. subst (λ k. k ≤ deepest) (sym (length-map (get_or H.past_sets s []) listed)) (sets_of s).0.0;
    sets_fit = λ s.
        every_mapped listed (PastSet (automaton_of R) s) (get_or H.past_sets s [])
        (every_map (past_set (automaton_of R) s) (get_or H.past_sets s []) (sets_of s).1);
    initial_symbols = initial_empty 0 _ refl (symbols_of 0).0.1;
    initial_sets = ap (map listed) (initial_empty 0 (get_or H.past_sets 0 []) refl (sets_of 0).0.1);
    items_fit = look_ahead;
  }
