-- The hints of a well-formed sheet are in place together with its table.
use Rattle.std.proofs.Common.{◌≡◌, ℕ, zero, suc, ◌<◌, ◌≤◌, Bool, true, false, cond, T, eqb, List, [], ◌∷◌, length, Some, None, Option, sym, refl, subst, arith}
use Rattle.syntax.specs.declared.Symbol.{Symbol}
use Rattle.syntax.specs.declared.Symbol.TheVariants.{Terminal, Nonterminal}
use Rattle.syntax.specs.Grammar.{Rule, start, terminals, nonterminals, Kind, InRange, Every}
use Rattle.table.specs.Lawful.{State}
use Rattle.table.specs.Hints.{Set, ◌∈◌, Known, deepest, added, right_of, right_side, PastSet, LookAhead, HintsLawful}
use Rattle.layout.specs.declared.Letter.{Letter}
use Rattle.layout.specs.declared.Letter.TheVariants.{G, I, K, N, P, S}
use Rattle.layout.specs.Choices.{given, mapped}
use Rattle.layout.specs.Records.{Sheet, record_at, byte, set_in, symbols}
use Rattle.layout.specs.Meaning.{placed, automaton, hints}
use Rattle.layout.specs.Opening.{right_length}
use Rattle.wellformed.specs.Formed.{Has, HasSymbol, IfAny, InRangeOf, Formed}
use Rattle.wellformed.proofs.Tests.{some_same, none_some, mapped_some, T_present, present_T, T_given, in_found}
use Rattle.wellformed.proofs.Rows.{Row, row_of, range_at, placed_row}
use Rattle.wellformed.proofs.Lawful.{length_gather, rule_row, incoming_row, goto_row, names_at, gap_at, sense_at, has_state, one_before}
use Rattle.exactness.specs.Exactness.{HintsAreLawful}
use Rattle.wellformed.proofs.Runs.{length_run}
use Rattle.wellformed.proofs.Bits.{member_fits, member_low, some_member, member_of_even}
use Rattle.exactness.proofs.Symbols.{every_map, every_run, run_none, symbols_in_range, no_symbols}

-- how long a right side is
side_of_length : (t : Bool) (o : Option Rule) (n : ℕ) →
    cond t (Some 1) (given None (λ q. Some (length q.right)) o) ≡ Some n →
    (α : List Symbol) × (cond t (Some (start ∷ [])) (right_of o) ≡ Some α) × (length α ≡ n)
side_of_length true o n e = (start ∷ [], refl, some_same e)
side_of_length false None n e = absurd (none_some e)
side_of_length false (Some q) n e = (q.right, refl, some_same e)

module _ (sh : Sheet) where
  pub look_row : (s p d a : ℕ) → a ∈ (hints sh).look_aheads s p d →
      (i : ℕ) × Row sh I s p d i × T (set_in sh.format (record_at sh i) a)
  look_row s p d a h =
      let (i, e, k) = in_found (λ i. set_in sh.format (record_at sh i)) (placed sh I s p d) a h in
      (i, row_of sh I s p d i e, k)

  first_row : (n a : ℕ) → a ∈ (hints sh).firsts n →
      (i : ℕ) × Row sh N n 0 0 i × T (set_in sh.format (record_at sh i) a)
  first_row n a h =
      let (i, e, k) = in_found (λ i. set_in sh.format (record_at sh i)) (placed sh N n 0 0) a h in
      (i, row_of sh N n 0 0 i e, k)

  -- what holds of no past symbols and of those of a record holds of a state's
  past_symbols_are : (Q : List Symbol → Type 0) (s : ℕ) → Q [] →
      ((i : ℕ) → Row sh S s 0 0 i → Q (symbols (record_at sh i) (byte sh i 5))) → Q ((hints sh).past_symbols s)
  past_symbols_are Q s none some = go (placed sh S s 0 0) refl
    where
      go : (o : Option ℕ) → placed sh S s 0 0 ≡ o → Q (given [] (λ i. symbols (record_at sh i) (byte sh i 5)) o)
      go None e = none
      go (Some i) e = some i (row_of sh S s 0 0 i e)

  -- what holds of the set of each record holds of a state's past sets
  pub past_sets_are : (Q : Set → Type 0) (s : ℕ) →
      ((d i : ℕ) → Row sh K s d 0 i → Q (set_in sh.format (record_at sh i))) → Every Q ((hints sh).past_sets s)
  past_sets_are Q s h =
      every_run Q deepest _ (λ d X e.
      let (i, o, is) = mapped_some (λ i. set_in sh.format (record_at sh i)) (placed sh K s d 0) X e in
      subst Q is (h d i (row_of sh K s d 0 i o)))

  known_symbol : (X : Symbol) → HasSymbol sh X → Known (hints sh) X
  known_symbol (Terminal a) h = tt
  known_symbol (Nonterminal n) (i, e) = present_T (placed sh N n 0 0) i e

module _ (sh : Sheet) (w : Formed sh) where
  pub ranged : (l : Letter) (a b c i : ℕ) → Row sh l a b c i → InRangeOf sh.format (record_at sh i) l
  ranged l a b c i r = range_at sh w.sorted l i r.within r.is_0

  row_state : (l : Letter) (a b c i : ℕ) → Row sh l a b c i → Has sh S (byte sh i 1) 0 → State (automaton sh) a
  row_state l a b c i r h = has_state sh w a (subst (λ k. Has sh S k 0) r.is_1 h)

  -- NONTERMINALS

  pub known_row : (n : ℕ) → n ∈ (hints sh).known → (i : ℕ) × Row sh N n 0 0 i
  known_row n h = let (i, e) = T_present (placed sh N n 0 0) h in (i, row_of sh N n 0 0 i e)

  row_known : (n i : ℕ) → Row sh N n 0 0 i → n ∈ (hints sh).known
  row_known n i r = present_T (placed sh N n 0 0) i (placed_row sh w.sorted N n 0 0 i r)

  known_few : (n : ℕ) → n ∈ (hints sh).known → n < nonterminals
  known_few n h = let (i, r) = known_row n h in subst (λ k. k < nonterminals) r.is_1 (ranged N n 0 0 i r).0

  known_gapless : (n : ℕ) → suc n ∈ (hints sh).known → n ∈ (hints sh).known
  known_gapless n h =
      let (i, r) = known_row (suc n) h in
      let gap = gap_at sh w N (suc n) 0 0 i r in
      known_symbol sh (Nonterminal n) (one_before (λ k. Has sh N k 0) (byte sh i 1) n r.is_1 gap)

  down_to_start : (n : ℕ) → n ∈ (hints sh).known → 0 ∈ (hints sh).known
  down_to_start zero h = h
  down_to_start (suc n) h = down_to_start n (known_gapless n h)

  start_known : 0 ∈ (hints sh).known
  start_known =
      let (i, lt, l) = w.some_nonterminal in
      let z = (range_at sh w.sorted N i lt l).1.0 in
      down_to_start (byte sh i 1) (row_known (byte sh i 1) i
      (record { within = lt; is_0 = l; is_1 = refl; is_2 = z 0 (omega arith); is_3 = z 1 (omega arith) }))

  rule_names : (p : ℕ) (q : Rule) → (automaton sh).grammar p ≡ Some q →
      q.left ∈ (hints sh).known × Every (Known (hints sh)) q.right
  rule_names p q e =
      let (i, r, is) = rule_row sh p q e in
      let (left, right) = names_at sh w P p 0 0 i r in
      subst (λ (q : Rule). q.left ∈ (hints sh).known × Every (Known (hints sh)) q.right) is
      (known_symbol sh (Nonterminal _) left, every_map (known_symbol sh) _ right)

  incoming_names : (s : ℕ) (X : Symbol) → (automaton sh).incoming s ≡ Some X → Known (hints sh) X
  incoming_names s X e =
      let (i, r, is) = incoming_row sh s X e in
      known_symbol sh X (subst (IfAny (HasSymbol sh)) is (names_at sh w S s 0 0 i r).0)

  goto_names : (s n t : ℕ) → (automaton sh).goto s n ≡ Some t → n ∈ (hints sh).known
  goto_names s n t e =
      let (i, r, is) = goto_row sh s n t e in
      subst (λ k. k ∈ (hints sh).known) r.is_2 (known_symbol sh (Nonterminal _) (names_at sh w G s n 0 i r).1.0)

  nullable_names : (n : ℕ) → n ∈ (hints sh).nullable → n ∈ (hints sh).known
  nullable_names n h = let (i, e, k) = T_given _ (placed sh N n 0 0) h in present_T (placed sh N n 0 0) i e

  -- FIRST TERMINALS AND ITEMS

  -- a first terminal is not END, whose bit is 0
  first_kinds : (n a : ℕ) → a ∈ (hints sh).firsts n → Kind a
  first_kinds n a h =
      let (i, r, k) = first_row sh n a h in
      let (few, even) = (ranged N n 0 0 i r).1.1.1.1 in
      (member_of_even sh.format _ a even k, member_low sh.format terminals _ a few k)

  pub dot_within : (s p d i : ℕ) → Row sh I s p d i →
      (α : List Symbol) × (right_side (automaton sh).grammar p ≡ Some α) × (d ≤ length α)
  dot_within s p d i r =
      let (n, e, le) = sense_at sh w I s p d i r in
      let e' = subst (λ k. right_length sh k ≡ Some n) r.is_2 e in
      let (α, side, long) = side_of_length (eqb p added) ((automaton sh).grammar p) n e' in
      (α, side, omega (arith, r.is_3))

  items_fit : (s p d a : ℕ) → a ∈ (hints sh).look_aheads s p d → LookAhead (automaton sh) s p d a
  items_fit s p d a h =
      let (i, r, k) = look_row sh s p d a h in
      record {
        of_state = row_state I s p d i r (names_at sh w I s p d i r).0;
        dot_within = dot_within s p d i r;
        terminal = member_low sh.format terminals _ a (ranged I s p d i r).1.1.1.1.0 k;
      }

  -- THE PAST

  symbols_few : (s : ℕ) → length ((hints sh).past_symbols s) ≤ deepest
  symbols_few s =
      past_symbols_are sh (λ xs. length xs ≤ deepest) s (omega arith)
      (λ i r. subst (λ k. k ≤ deepest) (sym (length_gather (byte sh i 5) _)) (ranged S s 0 0 i r).1.1.1.1.0)

  past_set : (s d i : ℕ) → Row sh K s d 0 i → PastSet (automaton sh) s (set_in sh.format (record_at sh i))
  past_set s d i r =
      let (few, some) = (ranged K s d 0 i r).1.1.1 in
      let (state, states) = names_at sh w K s d 0 i r in
      record {
        of_state = row_state K s d 0 i r state;
        occupied = some_member sh.format sh.format.states _ (omega arith) few some;
        states = λ x h. has_state sh w x (states x (member_fits sh.format _ x h) h);
      }

  initial_sets : (hints sh).past_sets 0 ≡ []
  initial_sets = run_none deepest _ (go (placed sh K 0 0 0) refl)
    where
      go : (o : Option ℕ) → placed sh K 0 0 0 ≡ o → mapped (λ i. set_in sh.format (record_at sh i)) o ≡ None
      go None e = refl
      go (Some i) e = let r = row_of sh K 0 0 0 i e in absurd (sense_at sh w K 0 0 0 i r r.is_1)

  pub hints_lawful : HintsLawful (automaton sh) (hints sh)
  hints_lawful = record {
    known_few = known_few;
    known_gapless = known_gapless;
    start_known = start_known;
    rule_names = rule_names;
    incoming_names = incoming_names;
    goto_names = goto_names;
    past_names = λ s. past_symbols_are sh (Every (Known (hints sh))) s tt
        (λ i r. every_map (known_symbol sh) _ (names_at sh w S s 0 0 i r).1);
    nullable_names = nullable_names;
    first_names = λ n a h. let (i, r, k) = first_row sh n a h in row_known n i r;
    first_kinds = first_kinds;
    symbols_few = symbols_few;
    symbols_fit = λ s. past_symbols_are sh (Every InRange) s tt
        (λ i r. symbols_in_range _ _ (ranged S s 0 0 i r).1.1.1.1.1.0);
    sets_few = λ s. length_run deepest _;
    sets_fit = λ s. past_sets_are sh (PastSet (automaton sh) s) s (past_set s);
    initial_symbols = past_symbols_are sh (λ xs. xs ≡ []) 0 refl
        (λ i r. no_symbols _ _ ((sense_at sh w S 0 0 0 i r).0 r.is_1).1);
    initial_sets = initial_sets;
    items_fit = items_fit;
  }

pub hints_are_lawful : HintsAreLawful
hints_are_lawful sh w = hints_lawful sh w
