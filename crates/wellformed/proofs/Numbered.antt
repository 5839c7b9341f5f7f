-- Productions, states and nonterminals are numbered without a gap, so that their records stand at their numbers.
use Rattle.std.proofs.Common.{◌≡◌, ℕ, zero, suc, ◌+◌, ◌-◌, ◌*◌, ◌<◌, ◌≤◌, ◌⊎◌, List, get_or, IfSome, Some, None, Option, sym, refl, ◌∙◌, subst, inl, inr, ⊎_elim, arith, lit<}
use Rattle.std.proofs.lemmas.Bool.{cases_lt, cases_eq}
use Rattle.std.proofs.lemmas.Bool.Decides.{nat_tests}
use Rattle.layout.specs.declared.Letter.{Letter}
use Rattle.layout.specs.declared.Letter.TheVariants.{A, D, G, I, K, N, P, S}
use Rattle.layout.specs.Records.{sixteen, sheet, count, record_at, at, byte, code, key_of, key}
use Rattle.layout.specs.Meaning.{placed}
use Rattle.layout.specs.Search.{position, starts, index_of, by_number}
use Rattle.wellformed.specs.Formed.{Has, NoGap, InRangeOf, Sorted, Formed}
use Rattle.wellformed.proofs.Rows.{Row, known, at_letter, range_at, row_of, row_number, placed_row}
use Rattle.wellformed.proofs.Rows.{none_placed}
use Rattle.wellformed.proofs.Seeks.{at_position, letter_range, keys_rise}
use Rattle.wellformed.proofs.Lookups.{digits}

module _ (bs : List ℕ) where
  -- where the records of a letter begin and end
  abbrev pub low : Letter → ℕ
  low l = get_or (starts (sheet bs)) (index_of l) 0

  abbrev pub high : Letter → ℕ
  high l = get_or (starts (sheet bs)) (index_of l + 1) 0

-- the codes of the last letters
last_codes : (m : Letter) → (code m ≤ 75) ⊎ ((code m ≡ 78) ⊎ ((code m ≡ 80) ⊎ (code m ≡ 83)))
last_codes A = inl (omega arith)
last_codes D = inl (omega arith)
last_codes G = inl (omega arith)
last_codes I = inl (omega arith)
last_codes K = inl (omega arith)
last_codes N = inr (inl refl)
last_codes P = inr (inr (inl refl))
last_codes S = inr (inr (inr refl))

positive : (n : ℕ) → (n ≡ 0 → ⊥) → 1 ≤ n
positive zero some = absurd (some refl)
positive (suc n) some = omega arith

-- all records between the begin and the end of a letter have it
pub record Block (bs : List ℕ) (l : Letter) : Type 0 where
  pub within : high bs l ≤ count (sheet bs)
  pub lettered : (i : ℕ) → low bs l ≤ i → i < high bs l → byte (sheet bs) i 0 ≡ code l

module _ (bs : List ℕ) (w : Sorted (sheet bs)) where
  abbrev code_at : (i : ℕ) → i < count (sheet bs) → ℕ
  code_at i lt = code (known (sheet bs) w i lt).which

  -- a key lies between those of its letter and of the next byte
  own_letter : (i : ℕ) (lt : i < count (sheet bs)) →
      (code_at i lt * 16777216 ≤ key (record_at (sheet bs) i)) × (key (record_at (sheet bs) i) < (code_at i lt + 1) * 16777216)
  own_letter i lt =
      let k = known (sheet bs) w i lt in
      let e = row_number (sheet bs) _ _ _ _ i k.row in
      let d = digits (record_at (sheet bs) i) k.which k.ranged in
      (omega arith, omega arith)

  -- a record behind the position of a byte's first key begins with that byte or a higher one, one before it with a
  -- lower
  from_start : (l i : ℕ) (lt : i < count (sheet bs)) → position (sheet bs) (key_of l 0 0 0) ≤ i → l ≤ code_at i lt
  from_start l i lt le =
      omega (arith, (at_position (sheet bs) w (key_of l 0 0 0)).over i le lt, own_letter i lt)

  to_start : (l i : ℕ) (lt : i < count (sheet bs)) → i < position (sheet bs) (key_of l 0 0 0) → code_at i lt < l
  to_start l i lt le =
      omega (arith, (at_position (sheet bs) w (key_of l 0 0 0)).under i le, own_letter i lt)

  is_code : (i : ℕ) (lt : i < count (sheet bs)) (l : ℕ) → code_at i lt ≡ l → byte (sheet bs) i 0 ≡ l
  is_code i lt l e = (known (sheet bs) w i lt).is_letter ∙ e

  pub nonterminal_block : Block bs N
  nonterminal_block = record {
    within = (at_position (sheet bs) w _).within;
    lettered = λ i a b.
        let lt : i < count (sheet bs) = omega (arith, (at_position (sheet bs) w (key_of 80 0 0 0)).within) in
        is_code i lt 78 (omega (arith, from_start 78 i lt a, to_start 80 i lt b, last_codes (known (sheet bs) w i lt).which));
  }

  pub production_block : Block bs P
  production_block = record {
    within = (at_position (sheet bs) w _).within;
    lettered = λ i a b.
        let lt : i < count (sheet bs) = omega (arith, (at_position (sheet bs) w (key_of 83 0 0 0)).within) in
        is_code i lt 80 (omega (arith, from_start 80 i lt a, to_start 83 i lt b, last_codes (known (sheet bs) w i lt).which));
  }

  pub state_block : Block bs S
  state_block = record {
    within = omega arith;
    lettered = λ i a b. is_code i b 83 (omega (arith, from_start 83 i b a, last_codes (known (sheet bs) w i b).which));
  }

  -- a record with a letter stands between the begin and the end of that letter
  in_block : (l : Letter) (n i : ℕ) → n < 256 → Row (sheet bs) l n 0 0 i → (low bs l ≤ i) × (i < high bs l)
  in_block l n i small r =
      let e = row_number (sheet bs) l n 0 0 i r in
      let first = letter_range (sheet bs) w l 0 0 0 (omega arith) (omega arith) (omega arith) in
      let last = letter_range (sheet bs) w l 255 255 255 (omega arith) (omega arith) (omega arith) in (
        ⊎_elim (λ (q : i < low bs l). absurd (omega (arith, first.under i q))) (λ q. q) (cases_lt i (low bs l)),
        ⊎_elim (λ q. q) (λ (q : high bs l ≤ i). absurd (omega (arith, last.over i q r.within))) (cases_lt i (high bs l)),
      )

  -- NUMBERS

  -- record i, if it has letter l, has one number in its key, which is a byte
  abbrev OneNumber : Letter → Type 0
  OneNumber l = (i : ℕ) → i < count (sheet bs) → byte (sheet bs) i 0 ≡ code l →
      Row (sheet bs) l (byte (sheet bs) i 1) 0 0 i × (byte (sheet bs) i 1 < 256)

  -- and the number before has its record too
  abbrev Gapless : Letter → Type 0
  Gapless l = (i : ℕ) → i < count (sheet bs) → byte (sheet bs) i 0 ≡ code l →
      (byte (sheet bs) i 1 ≡ 0) ⊎ Has (sheet bs) l (byte (sheet bs) i 1 - 1) 0

  module _ (l : Letter) (block : Block bs l) (numbered : OneNumber l) (gap : Gapless l) where
    row_at : (i : ℕ) → low bs l ≤ i → i < high bs l → Row (sheet bs) l (byte (sheet bs) i 1) 0 0 i
    row_at i a b = (numbered i (omega (arith, block.within)) (block.lettered i a b)).0

    number_at : (i : ℕ) → low bs l ≤ i → i < high bs l →
        key (record_at (sheet bs) i) ≡ key_of (code l) (byte (sheet bs) i 1) 0 0
    number_at i a b = row_number (sheet bs) l _ 0 0 i (row_at i a b)

    -- the number before is at an earlier record of the letter
    before : (i : ℕ) → low bs l ≤ i → i < high bs l → (byte (sheet bs) i 1 ≡ 0 → ⊥) →
        (j : ℕ) × (low bs l ≤ j) × (j < i) × (byte (sheet bs) j 1 + 1 ≡ byte (sheet bs) i 1)
    before i a b some = go (gap i lt (block.lettered i a b))
      where
        lt : i < count (sheet bs)
        lt = omega (arith, block.within)

        go : (byte (sheet bs) i 1 ≡ 0) ⊎ Has (sheet bs) l (byte (sheet bs) i 1 - 1) 0 →
            (j : ℕ) × (low bs l ≤ j) × (j < i) × (byte (sheet bs) j 1 + 1 ≡ byte (sheet bs) i 1)
        go (inl z) = absurd (some z)
        go (inr (j, e)) =
            let r = row_of (sheet bs) l (byte (sheet bs) i 1 - 1) 0 0 j e in
            let up : 1 ≤ byte (sheet bs) i 1 = positive _ some in
            let small = (numbered i lt (block.lettered i a b)).1 in
            let ki = number_at i a b in
            let kj = row_number (sheet bs) l (byte (sheet bs) i 1 - 1) 0 0 j r in
            let less : j < i =
            ⊎_elim (λ q. q) (λ (q : i ≤ j). absurd (omega (arith, keys_rise (sheet bs) w i j q r.within))) (cases_lt j i)
            in
            (j, (in_block l (byte (sheet bs) i 1 - 1) j (omega arith) r).0, less, omega (arith, r.is_1))

    -- the record that is d behind the first has number d
    number_is : (d : ℕ) → low bs l + d < high bs l → byte (sheet bs) (low bs l + d) 1 ≡ d
    number_is zero lt =
        ⊎_elim
        (λ q. q)
        (λ q. let (j, le, less, e) = before (low bs l + 0) (omega arith) lt q in absurd (omega arith))
        (cases_eq (byte (sheet bs) (low bs l + 0) 1) 0)
    number_is (suc d) lt =
        let last = number_is d (omega arith) in
        let here = low bs l + suc d in
        let kd = number_at (low bs l + d) (omega arith) (omega arith) in
        let kh = number_at (low bs l + suc d) (omega arith) lt in
        let rise = w.in_order (low bs l + d) (low bs l + suc d) (omega arith) (omega (arith, block.within)) in
        let (j, le, less, e) = before (low bs l + suc d) (omega arith) lt (λ z. omega arith) in
        let kj = number_at j le (omega arith) in
        omega (arith, keys_rise (sheet bs) w j (low bs l + d) (omega arith) (omega (arith, block.within)))

    -- so that a record is found by its number
    pub number_found : (n : ℕ) → low bs l + n < high bs l → placed (sheet bs) l n 0 0 ≡ Some (low bs l + n)
    number_found n lt =
        placed_row (sheet bs) w l n 0 0 (low bs l + n)
        (subst (λ k. Row (sheet bs) l k 0 0 (low bs l + n)) (number_is n lt) (row_at (low bs l + n) (omega arith) lt))

    pub number_absent : (n : ℕ) → n < 256 → high bs l ≤ low bs l + n → placed (sheet bs) l n 0 0 ≡ None
    number_absent n small le =
        none_placed (sheet bs) l n 0 0 (λ i r.
        let (a, b) = in_block l n i small r in
        let at_i : low bs l + (i - low bs l) ≡ i = omega arith in
        let e = subst (λ k. byte (sheet bs) k 1 ≡ i - low bs l) at_i (number_is (i - low bs l) (omega arith)) in
        omega (arith, r.is_1))

-- NONTERMINALS, PRODUCTIONS, STATES

module _ (bs : List ℕ) (w : Formed (sheet bs)) where
  one_number : (l : Letter) →
      ((r : List ℕ) → InRangeOf sixteen r l → (at r 1 < 256) × (at r 2 ≡ 0) × (at r 3 ≡ 0)) → OneNumber bs w.sorted l
  one_number l f i lt e =
      let z = f (record_at (sheet bs) i) (range_at (sheet bs) w.sorted l i lt e) in
      (record { within = lt; is_0 = e; is_1 = refl; is_2 = z.1; is_3 = z.2 }, z.0)

  nonterminals : OneNumber bs w.sorted N
  nonterminals = one_number N (λ r h. (omega (arith, h.0), h.1.0 0 (lit< tt), h.1.0 1 (lit< tt)))

  productions : OneNumber bs w.sorted P
  productions = one_number P (λ r h. (omega (arith, h.0), h.1.0 0 (lit< tt), h.1.0 1 (lit< tt)))

  states : OneNumber bs w.sorted S
  states = one_number S (λ r h. (omega (arith, h.0), h.1.0 0 (lit< tt), h.1.0 1 (lit< tt)))

  -- what a look-up by number finds
  pub record Found (l : Letter) (n : ℕ) : Type 0 where
    pub within : high bs l ≤ count (sheet bs)
    pub there : low bs l + n < high bs l → placed (sheet bs) l n 0 0 ≡ Some (low bs l + n)
    pub absent : high bs l ≤ low bs l + n → placed (sheet bs) l n 0 0 ≡ None

  found_by_number : (l : Letter) → Block bs l → OneNumber bs w.sorted l → Gapless bs w.sorted l → (n : ℕ) → n < 256 → Found l n
  found_by_number l b one gap n small = record {
    within = b.within;
    there = number_found bs w.sorted l b one gap n;
    absent = number_absent bs w.sorted l b one gap n small;
  }

  gap_of : (l : Letter) (i : ℕ) → i < count (sheet bs) → byte (sheet bs) i 0 ≡ code l →
      NoGap (sheet bs) (record_at (sheet bs) i) l
  gap_of l i lt e = at_letter (sheet bs) (NoGap (sheet bs)) i l e (w.gapless i lt)

  pub nonterminal_found : (n : ℕ) → n < 256 → Found N n
  nonterminal_found = found_by_number N (nonterminal_block bs w.sorted) nonterminals (gap_of N)

  pub production_found : (n : ℕ) → n < 256 → Found P n
  production_found = found_by_number P (production_block bs w.sorted) productions (gap_of P)

  pub state_found : (n : ℕ) → n < 256 → Found S n
  state_found = found_by_number S (state_block bs w.sorted) states (gap_of S)

  -- a look-up by number is a look-up by key
  pub by_number_is : (l : Letter) (n : ℕ) → Found l n →
      by_number (starts (sheet bs)) (index_of l) n ≡ placed (sheet bs) l n 0 0
  by_number_is l n f =
      ⊎_elim
      (λ (q : low bs l + n < high bs l).
      let e : by_number (starts (sheet bs)) (index_of l) n ≡ Some (low bs l + n) = grind (arith, nat_tests) in
      e ∙ sym (f.there q))
      (λ (q : high bs l ≤ low bs l + n).
      let e : by_number (starts (sheet bs)) (index_of l) n ≡ None = grind (arith, nat_tests) in
      e ∙ sym (f.absent q))
      (cases_lt (low bs l + n) (high bs l))

-- what is found is one of the records
pub placed_within : (bs : List ℕ) (l : Letter) (a b c : ℕ) (o : Option ℕ) → o ≡ placed (sheet bs) l a b c →
    IfSome o (λ i. i < count (sheet bs))
placed_within bs l a b c None e = tt
placed_within bs l a b c (Some i) e = (row_of (sheet bs) l a b c i (sym e)).within
