-- What iterators over the rows of a sheet and over numbers below a bound say in the words of the passes.
use Rattle.std.proofs.Common.{◌≡◌, ℕ, zero, suc, ◌+◌, ◌<◌, ◌≤◌, Bool, true, false, cond, ◌&&◌, T, eqb, ltb, List, length, get_or, Some, None, Err, Option, sym, refl, ap, ◌∙◌, subst, ⊎_elim, arith, eqb→eq}
use Rattle.std.specs.Bool.{MatchBool}
use Rattle.std.specs.Option.{MatchOption}
use Rattle.std.specs.List.{range_with_len, AllWithin, HoldsAt}
use Rattle.std.proofs.lemmas.Bool.{cases_lt}
use Rattle.std.proofs.lemmas.Bool.Decides.{nat_tests}
use Rattle.std.proofs.lemmas.List.{get_or_past}
use Rattle.std.proofs.lemmas.List.FromFn.{length-range_with_len, get_or-range_with_len}
use Rattle.syntax.specs.declared.Symbol.{Symbol}
use Rattle.syntax.specs.declared.Symbol.TheVariants.{Terminal}
use Rattle.table.specs.Hints.{added}
use Rattle.layout.specs.declared.Letter.TheVariants.{P}
use Rattle.layout.specs.declared.Refusal.{Refusal}
use Rattle.layout.specs.Refusals.{answered}
use Rattle.layout.specs.Choices.{mapped, given, unless, first, below, some_below, every}
use Rattle.layout.specs.Records.{Sheet, count, record_at, at, byte, symbol, symbols, rule_in}
use Rattle.layout.specs.Meaning.{placed, automaton}
use Rattle.layout.specs.Opening.{right_length}
use Rattle.records.specs.Parts.{symbol_in}
use Rattle.wellformed.proofs.Tests.{below_same}
use Rattle.wellformed.proofs.Lawful.{length_gather}
use Rattle.wellformed.proofs.Firsts.{first_none}
use Rattle.wellformed.proofs.Loops.{below_fails, some_hit, every_gather, unless_fails, unless_passes, refuses_at}
use Rattle.sorted.specs.Contents.{rows_in}
use Rattle.sorted.proofs.Chunks.{length_rows, row_at}
use Rattle.naming.specs.Failing.{FirstFailing}

-- NUMBERS BELOW A BOUND

number_at : (n k : ℕ) → k < n → get_or (range_with_len 0 n) k 0 ≡ k
number_at n k lt = omega (arith, get_or-range_with_len 0 n k 0 lt)

module _ (f : ℕ → Bool) where
  below_all : (n : ℕ) → ((k : ℕ) → k < n → f k ≡ true) → below n f ≡ true
  unfolding below
  below_all zero h = refl
  below_all (suc n) h =
      let e = below_all n (λ k lt. h k (omega arith)) in
      let here = h n (omega arith) in
      simp (here, e)

  some_none : (n : ℕ) → ((k : ℕ) → k < n → f k ≡ false) → some_below n f ≡ false
  unfolding some_below
  some_none zero h = refl
  some_none (suc n) h =
      let e = some_none n (λ k lt. h k (omega arith)) in
      let here = h n (omega arith) in
      simp (here, e)

  -- what `all` over a range says
  pub below_is : (n : ℕ) (r : Bool) →
      MatchBool r
      (AllWithin (λ k. f k ≡ true) (range_with_len 0 n) 0 (length (range_with_len 0 n)))
      ((k : ℕ) × (k < length (range_with_len 0 n)) × HoldsAt (λ k. f k ≡ false) (range_with_len 0 n) k) →
      r ≡ below n f
  below_is n true h =
      sym (below_all n (λ k lt.
      subst (λ j. f j ≡ true) (number_at n k lt) (h k 0 (omega arith) (omega (arith, length-range_with_len 0 n)))))
  below_is n false (k, lt, h) =
      let within : k < n = omega (arith, length-range_with_len 0 n) in
      sym (below_fails f n k within (subst (λ j. f j ≡ false) (number_at n k within) (h 0)))

-- ROWS

module _ (sh : Sheet) (test : List ℕ → Bool) where
  -- what `any` over the rows says
  pub some_row : (r : Bool) →
      MatchBool r
      ((k : ℕ) × (k < length (rows_in sh)) × HoldsAt (λ row. test row ≡ true) (rows_in sh) k)
      (AllWithin (λ row. test row ≡ false) (rows_in sh) 0 (length (rows_in sh))) →
      r ≡ some_below (count sh) (λ i. test (record_at sh i))
  some_row true (k, lt, h) =
      let within : k < count sh = omega (arith, length_rows sh) in
      let here = subst (λ row. test row ≡ true) (row_at sh k (record_at sh k) within) (h (record_at sh k)) in
      sym (some_hit (λ i. test (record_at sh i)) (count sh) k within here)
  some_row false h =
      sym (some_none (λ i. test (record_at sh i)) (count sh) (λ k lt.
      subst (λ row. test row ≡ false) (row_at sh k (record_at sh k) lt)
      (h k (record_at sh k) (omega arith) (omega (arith, length_rows sh)))))

  -- what `position` says of the first row that fails the test
  pub first_failing : (r : Option ℕ) →
      MatchOption r
      (AllWithin (λ row. test row ≡ true) (rows_in sh) 0 (length (rows_in sh)))
      (λ i.
      (i < length (rows_in sh)) × HoldsAt (λ row. test row ≡ false) (rows_in sh) i
      × AllWithin (λ row. test row ≡ true) (rows_in sh) 0 i) →
      FirstFailing sh test r
  first_failing None h = λ k lt.
      subst (λ row. test row ≡ true) (row_at sh k (record_at sh k) lt)
      (h k (record_at sh k) (omega arith) (omega (arith, length_rows sh)))
  first_failing (Some i) (lt, fails, before) =
      let within : i < count sh = omega (arith, length_rows sh) in (
        within,
        subst (λ row. test row ≡ false) (row_at sh i (record_at sh i) within) (fails (record_at sh i)),
        λ k less.
            subst (λ row. test row ≡ true) (row_at sh k (record_at sh k) (omega arith))
            (before k (record_at sh k) (omega arith) less),
      )

  -- a pass that refuses what fails the test
  module _ (f : ℕ → Option Refusal) (refusal : ℕ → Refusal)
      (each : (i : ℕ) → i < count sh → f i ≡ unless (test (record_at sh i)) (refusal i)) where
    pub passed : (n : ℕ) → n ≤ count sh → ((k : ℕ) → k < n → test (record_at sh k) ≡ true) → first f n ≡ None
    passed n le h = first_none f n (λ k lt. each k (omega arith) ∙ unless_passes (refusal k) (h k lt))

    pub refused_first : (n : ℕ) → count sh ≤ n → (i : ℕ) → FirstFailing sh test (Some i) →
        Err (refusal i) ≡ answered (first f n)
    refused_first n le i (lt, fails, before) =
        refuses_at f n i (refusal i) (passed i (omega arith) before)
        (each i lt ∙ unless_fails (refusal i) fails) (omega arith)

-- WHAT IS FOUND, OR NOT

-- what `is_some_and` and `is_none_or` say, where the closure computes f
pub given_of : {X : Type 0} {Q : X → Type 0} (y : Bool) (f : X → Bool) (o : Option X) (r : Bool) →
    MatchOption o (r ≡ y) Q → ((x : X) → Q x → r ≡ f x) → r ≡ given y f o
given_of y f None r h k = h
given_of y f (Some x) r h k = k x h

-- the length of a right side, by the record of its production
pub right_length_is : (sh : Sheet) (p : ℕ) → (p ≡ added → ⊥) →
    mapped (λ i. byte sh i 5) (placed sh P p 0 0) ≡ right_length sh p
right_length_is sh p other = go (eqb p added) (eqb→eq p added)
  where
    long : (o : Option ℕ) →
        mapped (λ i. byte sh i 5) o
        ≡ given None (λ q. Some (length q.right)) (mapped (λ i. rule_in (record_at sh i)) o)
    long None = refl
    long (Some i) = ap {B = Option ℕ} Some (sym (length_gather (byte sh i 5) _))

    go : (t : Bool) → (T t → p ≡ added) →
        mapped (λ i. byte sh i 5) (placed sh P p 0 0)
        ≡ cond t (Some 1) (given None (λ q. Some (length q.right)) ((automaton sh).grammar p))
    go true h = absurd (other (h tt))
    go false h = long (placed sh P p 0 0)

-- SYMBOLS OF A RECORD

-- the symbols that a record counts are those that are read one by one: what lies beyond it is END
pub each_symbol : (f : Symbol → Bool) (r : List ℕ) → length r ≡ 16 → f (Terminal 0) ≡ true →
    every f (symbols r (at r 5)) ≡ below (at r 5) (λ k. given true f (symbol_in r k))
each_symbol f r wide end =
    every_gather f (at r 5) (λ k. symbol (at r (8 + k)))
    ∙ below_same (at r 5) (λ k. f (symbol (at r (8 + k)))) (λ k. given true f (symbol_in r k)) (λ k lt.
    ⊎_elim
    (λ (q : k < 8).
    let e : ltb k (at r 5) && ltb k 8 ≡ true = grind (arith, nat_tests) in
    sym (ap (λ t. given true f (cond t (Some (symbol (at r (8 + k)))) None)) e))
    (λ (q : 8 ≤ k).
    let e : ltb k (at r 5) && ltb k 8 ≡ false = grind (arith, nat_tests) in
    let beyond : at r (8 + k) ≡ 0 = get_or_past r (8 + k) 0 (omega arith) in
    ap (λ b. f (symbol b)) beyond ∙ end
    ∙ sym (ap (λ t. given true f (cond t (Some (symbol (at r (8 + k)))) None)) e))
    (cases_lt k 8))
