-- Records in key order: where a key stands, and what a search for it finds.
use Rattle.std.proofs.Common.{◌≡◌, ℕ, ◌+◌, ◌<◌, ◌≤◌, true, false, T, leb, List, get_or, Some, None, sym, ◌∙◌, subst, ⊎_elim, arith}
use Rattle.std.proofs.lemmas.Bool.{cases_order, cases_lt}
use Rattle.std.proofs.lemmas.Bool.Decides.{nat_tests}
use Rattle.layout.specs.declared.Letter.{Letter}
use Rattle.layout.specs.declared.Letter.TheVariants.{A, D, G, I, K, N, P, S}
use Rattle.layout.specs.Records.{Sheet, count, record_at, code, key_of, key, has_key}
use Rattle.layout.specs.Meaning.{placed}
use Rattle.layout.specs.Search.{position, starts, index_of}
use Rattle.wellformed.specs.Formed.{Sorted}
use Rattle.wellformed.proofs.Firsts.{LeastAt, least_at, least_is}
use Rattle.wellformed.proofs.Rows.{Row, key_row, row_key, row_number, placed_row, none_placed}

-- a search for k may go on between these two records
pub record Between (sh : Sheet) (k low high : ℕ) : Type 0 where
  pub ordered : low ≤ high
  pub within : high ≤ count sh
  pub under : (j : ℕ) → j < low → key (record_at sh j) < k
  pub over : (j : ℕ) → high ≤ j → j < count sh → k ≤ key (record_at sh j)

module _ (sh : Sheet) (w : Sorted sh) where
  -- all records up to one with a lower key have lower keys, and all from one with no lower key on have none
  pub under_too : (k i : ℕ) → i < count sh → key (record_at sh i) < k → (j : ℕ) → j < i + 1 → key (record_at sh j) < k
  under_too k i top lt j le =
      ⊎_elim
      (λ (q : j ≡ i). rw q lt)
      (⊎_elim (λ (q : j < i). let h = w.in_order j i q top in omega arith) (λ (q : i < j). absurd (omega arith)))
      (cases_order j i)

  pub over_too : (k i : ℕ) → i < count sh → k ≤ key (record_at sh i) →
      (j : ℕ) → i ≤ j → j < count sh → k ≤ key (record_at sh j)
  over_too k i top lt j le within =
      ⊎_elim
      (λ (q : j ≡ i). rw q lt)
      (⊎_elim (λ (q : j < i). absurd (omega arith)) (λ (q : i < j). let h = w.in_order i j q within in omega arith))
      (cases_order j i)

  -- keys rise with places
  pub keys_rise : (i j : ℕ) → i ≤ j → j < count sh → key (record_at sh i) ≤ key (record_at sh j)
  keys_rise i j le lt =
      ⊎_elim
      (λ (q : i < j). omega (arith, w.in_order i j q lt))
      (λ (q : j ≤ i). let same : i ≡ j = omega arith in rw same (omega arith))
      (cases_lt i j)

  between_least : (k i : ℕ) → Between sh k i i → LeastAt (λ j. leb k (key (record_at sh j))) (count sh) i
  between_least k i b = record {
    within = b.within;
    none_below = λ j lt. let h = b.under j lt in grind (arith, nat_tests);
    hit = λ lt. let h = b.over i (omega arith) lt in grind (arith, nat_tests);
  }

  -- a search that has come to its end has found the position
  pub position_is : (k i : ℕ) → Between sh k i i → position sh k ≡ i
  unfolding position
  position_is k i b = least_is (λ j. leb k (key (record_at sh j))) (count sh) i (between_least k i b)

  -- what the position of k is, whatever k
  pub at_position : (k : ℕ) → Between sh k (position sh k) (position sh k)
  unfolding position
  at_position k =
      let l = least_at (λ j. leb k (key (record_at sh j))) (count sh) in
      record {
        ordered = omega arith;
        within = l.within;
        under = λ j lt. let h = l.none_below j lt in grind (arith, nat_tests);
        over = λ j le lt.
            over_too k (position sh k) (omega arith) (let h = l.hit (omega arith) in grind (arith, nat_tests)) j le lt;
      }

  -- a search for any k may begin with all records
  pub whole : (k : ℕ) → Between sh k 0 (count sh)
  whole k = record {
    ordered = omega arith;
    within = omega arith;
    under = λ j lt. absurd (omega arith);
    over = λ j le lt. absurd (omega arith);
  }

  -- a search for a key between two others may begin between their positions
  pub between : (k low high : ℕ) → low ≤ k → k ≤ high → Between sh k (position sh low) (position sh high)
  between k low high p q =
      let l = at_position low in
      let h = at_position high in
      record {
        ordered = ⊎_elim (λ r. absurd (crossed l h r)) (λ r. r) (cases_lt (position sh high) (position sh low));
        within = h.within;
        under = λ j lt. omega (arith, l.under j lt);
        over = λ j le lt. omega (arith, h.over j le lt);
      }
    where
      crossed : Between sh low (position sh low) (position sh low) → Between sh high (position sh high) (position sh high) →
          position sh high < position sh low → ⊥
      crossed l h r =
          omega (arith, l.under (position sh high) r, h.over (position sh high) (omega arith) (omega (arith, l.within)))

  -- and one for a key above another between its position and the last record
  pub above : (k low : ℕ) → low ≤ k → Between sh k (position sh low) (count sh)
  above k low p =
      let l = at_position low in
      record {
        ordered = l.within;
        within = omega arith;
        under = λ j lt. omega (arith, l.under j lt);
        over = λ j le lt. absurd (omega arith);
      }

  -- a search for a record of a letter may begin where the records of the letter begin, and end where they end
  pub letter_range : (l : Letter) (a b c : ℕ) → a < 256 → b < 256 → c < 256 →
      Between sh (key_of (code l) a b c) (get_or (starts sh) (index_of l) 0) (get_or (starts sh) (index_of l + 1) 0)
  letter_range A a b c x y z = between _ _ _ (omega arith) (omega arith)
  letter_range D a b c x y z = between _ _ _ (omega arith) (omega arith)
  letter_range G a b c x y z = between _ _ _ (omega arith) (omega arith)
  letter_range I a b c x y z = between _ _ _ (omega arith) (omega arith)
  letter_range K a b c x y z = between _ _ _ (omega arith) (omega arith)
  letter_range N a b c x y z = between _ _ _ (omega arith) (omega arith)
  letter_range P a b c x y z = between _ _ _ (omega arith) (omega arith)
  letter_range S a b c x y z = above _ _ (omega arith)

  -- the record with a key stands at the key's position
  pub row_position : (l : Letter) (a b c i : ℕ) → Row sh l a b c i → position sh (key_of (code l) a b c) ≡ i
  row_position l a b c i r =
      let e = row_number sh l a b c i r in
      position_is _ i (record {
        ordered = omega arith;
        within = omega (arith, r.within);
        under = λ j lt. omega (arith, w.in_order j i lt r.within);
        over = λ j le lt. over_too _ i r.within (omega arith) j le lt;
      })

  -- the same as code has it: equations in the place of equal terms
  pub search_range : (l : Letter) (a b c k at : ℕ) (table : List ℕ) → k ≡ key_of (code l) a b c → at ≡ index_of l →
      table ≡ starts sh → a < 256 → b < 256 → c < 256 → Between sh k (get_or table at 0) (get_or table (at + 1) 0)
  search_range l a b c k at table e f g x y z = simp (e, f, g) (letter_range l a b c x y z)

  pub search_finds : (l : Letter) (a b c i : ℕ) → i ≡ position sh (key_of (code l) a b c) → i < count sh →
      has_key l a b c (record_at sh i) ≡ true → placed sh l a b c ≡ Some i
  search_finds l a b c i e lt h = placed_row sh w l a b c i (key_row sh l a b c i lt (subst T (sym h) tt))

  pub search_misses : (l : Letter) (a b c i : ℕ) → i ≡ position sh (key_of (code l) a b c) →
      (i < count sh → has_key l a b c (record_at sh i) ≡ false) → placed sh l a b c ≡ None
  search_misses l a b c i e other =
      none_placed sh l a b c (λ j r.
      let same : i ≡ j = e ∙ row_position l a b c j r in
      let miss = subst (λ k. k < count sh → has_key l a b c (record_at sh k) ≡ false) same other r.within in
      subst T miss (row_key sh l a b c j r))
