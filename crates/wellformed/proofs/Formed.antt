-- Opening refuses nothing exactly of the sheets that are well-formed.
use Rattle.std.proofs.Common.{◌≡◌, ℕ, zero, suc, ◌+◌, ◌-◌, ◌^◌, ◌<◌, ◌≤◌, Bool, true, false, cond, T, ltb, ◌⊎◌, List, length, is_some, Some, None, Option, sym, refl, ap, ◌∙◌, subst, inl, inr, ⊎_elim, arith, lit<, ltb→lt, lt→ltb}
use Rattle.std.proofs.lemmas.Bool.{cases_lt, false≢true}
use Rattle.syntax.specs.declared.Symbol.{Symbol}
use Rattle.syntax.specs.declared.Symbol.TheVariants.{Terminal, Nonterminal}
use Rattle.syntax.specs.Grammar.{terminals, nonterminals, productions, longest}
use Rattle.table.specs.declared.Action.{Action}
use Rattle.table.specs.declared.Action.TheVariants.{Shift, Reduce, Accept, Reject}
use Rattle.table.specs.Hints.{deepest, added}
use Rattle.layout.specs.declared.Letter.{Letter}
use Rattle.layout.specs.declared.Letter.TheVariants.{A, D, G, I, K, N, P, S}
use Rattle.layout.specs.declared.Refusal.TheVariants.{Length, Order, Range, Absent, Contradiction}
use Rattle.layout.specs.Choices.{present, first, some_below}
use Rattle.layout.specs.Records.{Format, Sheet, sheet, count, record_at, at, byte, code, key, payload, set_in}
use Rattle.layout.specs.Records.{no_symbol, maybe_symbol, symbols, action_in}
use Rattle.layout.specs.Meaning.{placed, automaton}
use Rattle.layout.specs.Opening.{most_bytes, length_fits, in_order, in_range, in_range_of, unused, symbol_byte}
use Rattle.layout.specs.Opening.{symbol_bytes, action_bytes, has_symbol, has_target, no_gap, names_known, names_fit}
use Rattle.layout.specs.Opening.{has_letter, has_all_kinds, action_makes_sense, right_length, makes_sense_as}
use Rattle.layout.specs.Opening.{makes_sense, length_refused, record_refused, sorting, sorting_passes, naming_passes}
use Rattle.layout.specs.Opening.{opening, opening_passes}
use Rattle.wellformed.specs.Formed.{LengthFits, Unused, SymbolByte, SymbolBytes, ActionBytes, InRangeOf, Has}
use Rattle.wellformed.specs.Formed.{HasSymbol, HasTarget, NoGap, NamesKnown, SomeRecord, ActionMakesSense}
use Rattle.wellformed.specs.Formed.{MakesSenseAs, ByLetter, Sorted, Formed, SortsExactlySorted}
use Rattle.wellformed.specs.Formed.{OpensExactlyFormed}
use Rattle.wellformed.specs.Told.{AllClean}
use Rattle.wellformed.proofs.Tests.{T_unless, unless_T, or_none, none_or}
use Rattle.wellformed.proofs.Says.{Says, always, both, either, never, if_so, split, less, at_most, equal, all_below}
use Rattle.wellformed.proofs.Says.{one_below, each, there, if_any, there_is, is_symbol}
use Rattle.wellformed.proofs.Rows.{says_by_letter, at_letter}
use Rattle.wellformed.proofs.Firsts.{none_first}
use Rattle.wellformed.proofs.Told.{clean, none_told}

-- THE TESTS OF A RECORD

says_unused : (r : List ℕ) (k m : ℕ) → Says (unused r k m) (Unused r k m)
says_unused r k m = all_below (m - k) (λ j. equal (at r (k + j)) 0)

says_symbol_byte : (b : ℕ) → Says (symbol_byte b) (SymbolByte b)
says_symbol_byte b = either (both (at_most 1 b) (less b terminals)) (both (at_most 64 b) (less b (64 + nonterminals)))

module _ (f : Format) (r : List ℕ) where
  says_symbol_bytes : (n : ℕ) → Says (symbol_bytes f r n) (SymbolBytes f r n)
  says_symbol_bytes n =
      both (at_most n longest)
      (both (all_below n (λ k. says_symbol_byte (at r (8 + k))))
      (all_below (f.width - 8 - n) (λ k. equal (at r (8 + n + k)) no_symbol)))

  says_action_bytes : (x t : ℕ) → Says (action_bytes f x t) (ActionBytes f x t)
  says_action_bytes x t =
      either (either (both (equal x 1) (less t f.states)) (both (equal x 2) (less t productions)))
      (both (equal x 3) (equal t 0))

  abbrev says_state : Says (ltb (at r 1) f.states) (at r 1 < f.states)
  says_state = less (at r 1) f.states

  abbrev says_terminal_set : Says (ltb (payload f r) (2 ^ terminals)) (payload f r < 2 ^ terminals)
  says_terminal_set = less (payload f r) (2 ^ terminals)

  says_range : (l : Letter) → Says (in_range_of f r l) (InRangeOf f r l)
  says_range A =
      both says_state (both (less (at r 2) terminals) (both (says_unused r 3 4)
      (both (says_action_bytes (at r 4) (at r 5)) (says_unused r 6 f.width))))
  says_range D = both says_state (both (says_unused r 2 4) (both (less (at r 4) productions) (says_unused r 5 f.width)))
  says_range G =
      both says_state (both (less (at r 2) nonterminals) (both (says_unused r 3 4)
      (both (less (at r 4) f.states) (says_unused r 5 f.width))))
  says_range I =
      both says_state (both (either (less (at r 2) productions) (equal (at r 2) added)) (both (less (at r 3) 256)
      (both (says_unused r 4 8) (both says_terminal_set (never (equal (payload f r) 0))))))
  says_range K =
      both says_state (both (less (at r 2) deepest) (both (says_unused r 3 8)
      (both (less (payload f r) (2 ^ f.states)) (never (equal (payload f r) 0)))))
  says_range N =
      both (less (at r 1) nonterminals) (both (says_unused r 2 4) (both (less (at r 4) 2) (both (says_unused r 5 8)
      (both says_terminal_set (equal _ 0)))))
  says_range P =
      both (less (at r 1) productions) (both (says_unused r 2 4) (both (less (at r 4) nonterminals) (both (says_unused r 6 8)
      (says_symbol_bytes (at r 5)))))
  says_range S =
      both says_state (both (says_unused r 2 4) (both (either (says_symbol_byte (at r 4)) (equal (at r 4) no_symbol))
      (both (says_unused r 6 8) (says_symbol_bytes (at r 5)))))

module _ (sh : Sheet) (r : List ℕ) where
  says_has : (l : Letter) (a b : ℕ) → Says (present (placed sh l a b 0)) (Has sh l a b)
  says_has l a b = there (placed sh l a b 0)

  says_has_symbol : (X : Symbol) → Says (has_symbol sh X) (HasSymbol sh X)
  says_has_symbol (Terminal a) = always
  says_has_symbol (Nonterminal n) = says_has N n 0

  says_target : (x : Action) → Says (has_target sh x) (HasTarget sh x)
  says_target (Shift t) = says_has S t 0
  says_target (Reduce p) = says_has P p 0
  says_target Accept = always
  says_target Reject = always

  says_gap : (l : Letter) → Says (no_gap sh r l) (NoGap sh r l)
  says_gap A = always
  says_gap D = always
  says_gap G = always
  says_gap I = always
  says_gap K = either (equal (at r 2) 0) (says_has K (at r 1) (at r 2 - 1))
  says_gap N = either (equal (at r 1) 0) (says_has N (at r 1 - 1) 0)
  says_gap P = either (equal (at r 1) 0) (says_has P (at r 1 - 1) 0)
  says_gap S = either (equal (at r 1) 0) (says_has S (at r 1 - 1) 0)

  says_names : (l : Letter) → Says (names_known sh r l) (NamesKnown sh r l)
  says_names A = both (says_has S (at r 1) 0) (says_target (action_in r))
  says_names D = both (says_has S (at r 1) 0) (says_has P (at r 4) 0)
  says_names G = both (says_has S (at r 1) 0) (both (says_has N (at r 2) 0) (says_has S (at r 4) 0))
  says_names I = both (says_has S (at r 1) 0) (either (equal (at r 2) added) (says_has P (at r 2) 0))
  says_names K =
      both (says_has S (at r 1) 0)
      (all_below sh.format.states (λ s. if_so (set_in sh.format r s) (says_has S s 0)))
  says_names N = always
  says_names P = both (says_has N (at r 4) 0) (each says_has_symbol (symbols r (at r 5)))
  says_names S = both (if_any says_has_symbol (maybe_symbol (at r 4))) (each says_has_symbol (symbols r (at r 5)))

  says_action : (a : ℕ) (x : Action) → Says (action_makes_sense sh a x) (ActionMakesSense sh a x)
  says_action a (Shift t) = both (never (equal a 0)) (is_symbol ((automaton sh).incoming t) (Terminal a))
  says_action a (Reduce p) = always
  says_action a Accept = equal a 0
  says_action a Reject = always

  says_no_action : Says (makes_sense_as sh r D) (MakesSenseAs sh r D)
  says_no_action =
      let s = never (one_below (count sh) (λ j. both (equal (byte sh j 0) (code A)) (equal (byte sh j 1) (at r 1)))) in
      record {
        to = λ h j lt e e'. s.to h (j, lt, (e, e'));
        back = λ h. s.back (λ k. h k.0 k.1 k.2.0 k.2.1);
      }

  says_sense : (l : Letter) → Says (makes_sense_as sh r l) (MakesSenseAs sh r l)
  says_sense A = says_action (at r 2) (action_in r)
  says_sense D = says_no_action
  says_sense G = is_symbol ((automaton sh).incoming (at r 4)) (Nonterminal (at r 2))
  says_sense I = there_is (λ n. at_most (at r 3) n) (right_length sh (at r 2))
  says_sense K = never (equal (at r 1) 0)
  says_sense N = always
  says_sense P = always
  says_sense S =
      split (equal (at r 1) 0) (both (equal (at r 4) no_symbol) (equal (at r 5) 0)) (never (equal (at r 4) no_symbol))

-- THE SHEET

module _ (sh : Sheet) where
  says_length : Says (length_fits sh) (LengthFits sh)
  says_length =
      both (both (never (equal (length sh.bytes) 0)) (equal _ 0)) (at_most (length sh.bytes) most_bytes)

  says_kind : (l : Letter) → Says (some_below (count sh) (has_letter sh l)) (SomeRecord sh l)
  says_kind l = one_below (count sh) (λ i. equal (byte sh i 0) (code l))

  says_kinds : Says (has_all_kinds sh) (SomeRecord sh P × (SomeRecord sh S × SomeRecord sh N))
  says_kinds = both (says_kind P) (both (says_kind S) (says_kind N))

  abbrev NamesFit : List ℕ → Letter → Type 0
  NamesFit r l = NoGap sh r l × NamesKnown sh r l

  range_says : (i : ℕ) → Says (in_range sh.format (record_at sh i)) (ByLetter sh (InRangeOf sh.format) i)
  range_says i = says_by_letter sh i _ (InRangeOf sh.format) (says_range sh.format (record_at sh i))

  names_say : (i : ℕ) → Says (names_fit sh (record_at sh i)) (ByLetter sh NamesFit i)
  names_say i =
      says_by_letter sh i _ NamesFit (λ l. both (says_gap sh (record_at sh i) l) (says_names sh (record_at sh i) l))

  sense_says : (i : ℕ) → Says (makes_sense sh (record_at sh i)) (ByLetter sh (MakesSenseAs sh) i)
  sense_says i = says_by_letter sh i _ (MakesSenseAs sh) (says_sense sh (record_at sh i))

  says_order : (i : ℕ) → Says (in_order sh i) ((i ≡ 0) ⊎ (key (record_at sh (i - 1)) < key (record_at sh i)))
  says_order i = either (equal i 0) (less (key (record_at sh (i - 1))) (key (record_at sh i)))

  -- neighbours in order are all in order
  module _ (next : (i : ℕ) → i < count sh → T (in_order sh i)) where
    next_above : (i : ℕ) → i + 1 < count sh → key (record_at sh i) < key (record_at sh (i + 1))
    next_above i lt = go ((says_order (i + 1)).to (next (i + 1) lt))
      where
        go : (i + 1 ≡ 0) ⊎ (key (record_at sh (i + 1 - 1)) < key (record_at sh (i + 1))) →
            key (record_at sh i) < key (record_at sh (i + 1))
        go (inl e) = absurd (omega arith)
        go (inr h) = let back : i + 1 - 1 ≡ i = omega arith in rw back at h

    rising : (i d : ℕ) → i + suc d < count sh → key (record_at sh i) < key (record_at sh (i + suc d))
    rising i zero lt = next_above i lt
    rising i (suc d) lt =
        let before : key (record_at sh i) < key (record_at sh (i + suc d)) = rising i d (omega arith) in
        let same : i + suc d + 1 ≡ i + suc (suc d) = omega arith in
        let step = next_above (i + suc d) (omega arith) in
        let step' : key (record_at sh (i + suc d)) < key (record_at sh (i + suc (suc d))) = rw same at step in
        omega arith

    all_in_order : (i j : ℕ) → i < j → j < count sh → key (record_at sh i) < key (record_at sh j)
    all_in_order i j lt top =
        let same : i + suc (j - i - 1) ≡ j = omega arith in
        let r : key (record_at sh i) < key (record_at sh (i + suc (j - i - 1))) = rising i (j - i - 1) (omega arith) in
        rw same at r

  next_in_order : Sorted sh → (i : ℕ) → i < count sh → T (in_order sh i)
  next_in_order w zero lt = tt
  next_in_order w (suc i) lt =
      let back : suc i - 1 ≡ i = omega arith in
      let above = w.in_order i (suc i) (omega arith) lt in
      (says_order (suc i)).back (inr (subst (λ k. key (record_at sh k) < key (record_at sh (suc i))) (sym back) above))

  -- the names pass tests a record, and behind the last that there is one of each kind
  pub names_test : (i : ℕ) → i < count sh →
      cond (ltb i (count sh)) (names_fit sh (record_at sh i)) (has_all_kinds sh) ≡ names_fit sh (record_at sh i)
  names_test i lt = go (ltb i (count sh)) (lt→ltb i (count sh) lt)
    where
      go : (b : Bool) → T b → cond b (names_fit sh (record_at sh i)) (has_all_kinds sh) ≡ names_fit sh (record_at sh i)
      go true h = refl
      go false h = absurd h

  kinds_test : cond (ltb (count sh) (count sh)) (names_fit sh (record_at sh (count sh))) (has_all_kinds sh) ≡ has_all_kinds sh
  kinds_test = go (ltb (count sh) (count sh)) (ltb→lt (count sh) (count sh))
    where
      go : (b : Bool) → (T b → count sh < count sh) →
          cond b (names_fit sh (record_at sh (count sh))) (has_all_kinds sh) ≡ has_all_kinds sh
      go true h = absurd (let lt = h tt in omega arith)
      go false h = refl

  pub kinds_test_at : (n : ℕ) → n ≡ count sh →
      cond (ltb n (count sh)) (names_fit sh (record_at sh n)) (has_all_kinds sh) ≡ has_all_kinds sh
  kinds_test_at n e = ap (λ k. cond (ltb k (count sh)) (names_fit sh (record_at sh k)) (has_all_kinds sh)) e ∙ kinds_test

  to_sorted : AllClean (sorting_passes sh) → Sorted sh
  to_sorted (length-clean, (records-clean, end)) =
      let row : (i : ℕ) → i < count sh → T (in_order sh i) × T (in_range sh.format (record_at sh i)) =
      λ i lt. let (o, r) = or_none _ _ (records-clean i lt) in (T_unless _ (Order i) o, T_unless _ (Range i) r)
      in
      record {
        length_fits = says_length.to (T_unless _ Length (length-clean 0 (lit< tt)));
        in_order = all_in_order (λ i lt. (row i lt).0);
        in_range = λ i lt. (range_says i).to (row i lt).1;
      }

  from_sorted : Sorted sh → AllClean (sorting_passes sh)
  from_sorted w =
      let record_clean : (i : ℕ) → i < count sh → record_refused sh i ≡ None =
      λ i lt.
      none_or _ _ (unless_T _ (Order i) (next_in_order w i lt))
      ∙ unless_T _ (Range i) ((range_says i).back (w.in_range i lt))
      in
      (λ i lt. unless_T _ Length (says_length.back w.length_fits), (record_clean, tt))

  to_formed : AllClean (opening_passes sh) → Formed sh
  to_formed (length-clean, (records-clean, (names-clean, (sense-clean, end)))) =
      let named : (i : ℕ) → i < count sh → ByLetter sh NamesFit i =
      λ i lt. (names_say i).to (subst T (names_test i lt) (T_unless _ (Absent i) (names-clean i (omega arith))))
      in
      let kinds_clean = T_unless _ (Absent (count sh)) (names-clean (count sh) (omega arith)) in
      let kinds = says_kinds.to (subst T kinds_test kinds_clean) in
      record {
        sorted = to_sorted (length-clean, (records-clean, tt));
        gapless = λ i lt. let (l, e, h) = named i lt in (l, e, h.0);
        names_known = λ i lt. let (l, e, h) = named i lt in (l, e, h.1);
        some_production = kinds.0;
        some_state = kinds.1.0;
        some_nonterminal = kinds.1.1;
        makes_sense = λ i lt. (sense_says i).to (T_unless _ (Contradiction i) (sense-clean i lt));
      }

  named_back : Formed sh → (i : ℕ) → i < count sh → ByLetter sh NamesFit i
  named_back w i lt =
      let (l, e, h) = w.gapless i lt in
      (l, e, (h, at_letter sh (NamesKnown sh) i l e (w.names_known i lt)))

  names_back : Formed sh → (i : ℕ) → i < count sh + 1 →
      T (cond (ltb i (count sh)) (names_fit sh (record_at sh i)) (has_all_kinds sh))
  names_back w i lt =
      ⊎_elim
      (λ (q : i < count sh). subst T (sym (names_test i q)) ((names_say i).back (named_back w i q)))
      (λ (q : count sh ≤ i).
      let last : count sh ≡ i = omega arith in
      subst (λ k. T (cond (ltb k (count sh)) (names_fit sh (record_at sh k)) (has_all_kinds sh))) last
      (subst T (sym kinds_test) (says_kinds.back (w.some_production, (w.some_state, w.some_nonterminal)))))
      (cases_lt i (count sh))

  naming_clean : Formed sh → AllClean (naming_passes sh)
  naming_clean w = (
    λ i lt. unless_T _ (Absent i) (names_back w i lt),
    (λ i lt. unless_T _ (Contradiction i) ((sense_says i).back (w.makes_sense i lt)), tt),
  )

  from_formed : Formed sh → AllClean (opening_passes sh)
  from_formed w =
      let (length-clean, (records-clean, end)) = from_sorted w.sorted in
      (length-clean, (records-clean, naming_clean w))

pub sorts_exactly_sorted : SortsExactlySorted
unfolding sorting
sorts_exactly_sorted sh =
    (λ e. to_sorted sh (clean (sorting_passes sh) e), λ w. none_told (sorting_passes sh) (from_sorted sh w))

pub opens_exactly_formed : OpensExactlyFormed
unfolding opening
opens_exactly_formed sh =
    (λ e. to_formed sh (clean (opening_passes sh) e), λ w. none_told (opening_passes sh) (from_formed sh w))

-- what the tests of a sheet that is held say

pub not_some : {X : Type 0} (o : Option X) → is_some o ≡ false → o ≡ None
not_some None e = refl
not_some (Some x) e = absurd (false≢true (sym e))

pub sorted_of : (sh : Sheet) → is_some (sorting sh) ≡ false → Sorted sh
sorted_of sh e = (sorts_exactly_sorted sh).0 (not_some _ e)

pub formed_of : (sh : Sheet) → is_some (opening sh) ≡ false → Formed sh
formed_of sh e = (opens_exactly_formed sh).0 (not_some _ e)

pub sorted_none : (sh : Sheet) → Sorted sh → is_some (sorting sh) ≡ false
sorted_none sh w = ap is_some ((sorts_exactly_sorted sh).1 w)

-- a sorted sheet of 16-byte records has few of them
pub few_records : (bs : List ℕ) → Sorted (sheet bs) → count (sheet bs) ≤ 4095
unfolding count
few_records bs w = omega (arith, w.length_fits.1)

-- a sheet that is no longer than it may be
pub short_bytes : (bs : List ℕ) → first (length_refused (sheet bs)) 1 ≡ None → length bs ≤ most_bytes
short_bytes bs e =
    ((says_length (sheet bs)).to (T_unless _ Length (none_first (length_refused (sheet bs)) 1 e 0 (lit< tt)))).1
