-- The records of a sheet as a list of rows.
use Rattle.std.proofs.Common.{◌≡◌, ℕ, zero, suc, ◌+◌, ◌-◌, ◌*◌, ◌<◌, ◌≤◌, Bool, true, false, cond, ◌==◌, ◌||◌, nat_lt, ltb, slice_index, List, [], ◌∷◌, length, get_or, take, drop, Some, None, Option, sym, refl, ap, ◌∙◌, ⊎_elim, arith, length-take, length-drop, mul-zero, mul-suc}
use Rattle.std.specs.List.{slice_get}
use Rattle.std.specs.List.Sorted.{IsPartitionPoint, IsPartitionedBy}
use Rattle.std.specs.Option.{option_map}
use Rattle.std.specs.Simd.{first_chunks}
use Rattle.std.proofs.lemmas.Bool.{cases_lt, lt-ltb, le-ltb}
use Rattle.std.proofs.lemmas.Bool.Decides.{nat_tests}
use Rattle.std.proofs.lemmas.List.{drop-drop, get_or-drop, get_or-take}
use Rattle.std.proofs.lemmas.Option.{slice_get_past}
use Rattle.records.specs.declared.Record.{Record}
use Rattle.layout.specs.declared.Letter.{Letter}
use Rattle.layout.specs.Choices.{given, mapped, gather}
use Rattle.layout.specs.Records.{Sheet, sixteen, sheet, count, record_at, key}
use Rattle.layout.specs.Search.{position, starts, index_of}
use Rattle.layout.specs.Opening.{in_order, in_range}
use Rattle.wellformed.specs.Formed.{Sorted}
use Rattle.wellformed.proofs.Seeks.{Between, position_is, keys_rise}
use Rattle.sorted.specs.Contents.{rows_in}
use Rattle.sorted.specs.Found.{record_of, taken, by_place, by_count}

pub length_gather : {X : Type 0} (n : ℕ) (g : ℕ → X) → length (gather n g) ≡ n
unfolding gather
length_gather zero g = refl
length_gather (suc n) g = ap suc (length_gather n (λ k. g (suc k)))

pub gather_at : {X : Type 0} (n : ℕ) (g : ℕ → X) (k : ℕ) (d : X) → k < n → get_or (gather n g) k d ≡ g k
unfolding gather
gather_at zero g k d lt = absurd (omega arith)
gather_at (suc n) g zero d lt = refl
gather_at (suc n) g (suc k) d lt = gather_at n (λ k. g (suc k)) k d (omega arith)

gather_there : {X : Type 0} (n : ℕ) (g : ℕ → X) (k : ℕ) → k < n → slice_get (gather n g) k ≡ Some (g k)
unfolding gather
gather_there zero g k lt = absurd (omega arith)
gather_there (suc n) g zero lt = refl
gather_there (suc n) g (suc k) lt = gather_there n (λ k. g (suc k)) k (omega arith)

pub gather_get : {X : Type 0} (n : ℕ) (g : ℕ → X) (k : ℕ) →
    slice_get (gather n g) k ≡ cond (nat_lt k n) (Some (g k)) None
gather_get {X} n g k =
    ⊎_elim
    (λ (q : k < n). gather_there n g k q ∙ sym (ap {B = Option X} (λ b. cond b (Some (g k)) None) (lt-ltb k n q)))
    (λ (q : n ≤ k).
    slice_get_past (gather n g) k (omega (arith, length_gather n g))
    ∙ sym (ap {B = Option X} (λ b. cond b (Some (g k)) None) (le-ltb k n q)))
    (cases_lt k n)

pub take_gather : {X : Type 0} (m n : ℕ) (g : ℕ → X) → m ≤ n → take m (gather n g) ≡ gather m g
unfolding gather
take_gather zero n g le = refl
take_gather (suc m) zero g le = absurd (omega arith)
take_gather (suc m) (suc n) g le = ap (λ xs. g 0 ∷ xs) (take_gather m n (λ k. g (suc k)) (omega arith))

pub gather_same : {X : Type 0} (n : ℕ) (f g : ℕ → X) → ((k : ℕ) → f k ≡ g k) → gather n f ≡ gather n g
unfolding gather
gather_same zero f g e = refl
gather_same (suc n) f g e = rw (e 0) (ap (λ xs. g 0 ∷ xs) (gather_same n (λ k. f (suc k)) (λ k. g (suc k)) (λ k. e (suc k))))

-- chunks one behind the other
pub chunks_gather : {X : Type 0} (n k : ℕ) (xs : List X) →
    first_chunks n k xs ≡ gather k (λ i. take n (drop (n * i) xs))
unfolding gather
chunks_gather n zero xs = refl
chunks_gather n (suc k) xs =
    ap (λ ys. take n xs ∷ ys) (chunks_gather n k (drop n xs) ∙ gather_same k _ _ next)
    ∙ ap (λ m. take n (drop m xs) ∷ gather k (λ i. take n (drop (n * suc i) xs))) (sym (mul-zero n))
  where
    next : (i : ℕ) → take n (drop (n * i) (drop n xs)) ≡ take n (drop (n * suc i) xs)
    next i =
        let along : n + n * i ≡ n * suc i = omega (arith, mul-suc n i) in
        ap (take n) (drop-drop (n * i) n xs ∙ ap (λ m. drop m xs) along)

module _ (sh : Sheet) where
  pub length_rows : length (rows_in sh) ≡ count sh
  length_rows = length_gather (count sh) (record_at sh)

  pub row_at : (i : ℕ) (d : List ℕ) → i < count sh → get_or (rows_in sh) i d ≡ record_at sh i
  row_at i d lt = gather_at (count sh) (record_at sh) i d lt

  -- the key of a row that is read by its place
  pub row_key : (rs : List (List ℕ)) (i : ℕ) → rs ≡ rows_in sh → i < count sh →
      key (get_or rs i []) ≡ key (record_at sh i)
  row_key rs i e lt = ap (λ ys. key (get_or ys i [])) e ∙ ap key (row_at i [] lt)

  given_row : (b : Bool) (r : List ℕ) → option_map record_of (cond b (Some r) None) ≡ cond b (Some (record_of r)) None
  given_row true r = refl
  given_row false r = refl

  -- a row that is read by its place
  pub place_row : (i : ℕ) → option_map record_of (slice_get (rows_in sh) i) ≡ by_place sh i
  place_row i =
      ap (option_map record_of) (gather_get (count sh) (record_at sh) i) ∙ given_row (nat_lt i (count sh)) (record_at sh i)

  given_place : (b : Bool) (i : ℕ) →
      option_map record_of (cond b (Some (record_at sh i)) None) ≡ mapped (taken sh) (cond b (Some i) None)
  given_place true i = refl
  given_place false i = refl

  -- and one by its number among those before a bound
  pub numbered_row : (l : Letter) (n s e : ℕ) →
      s ≡ slice_index (starts sh) (index_of l) → e ≡ slice_index (starts sh) (index_of l + 1) → e ≤ count sh →
      option_map record_of (slice_get (take e (rows_in sh)) (s + n)) ≡ by_count sh l n
  numbered_row l n s e p q le =
      ap (λ rs. option_map record_of (slice_get rs (s + n))) (take_gather e (count sh) (record_at sh) le)
      ∙ (ap (option_map record_of) (gather_get e (record_at sh) (s + n))
      ∙ (given_place (nat_lt (s + n) e) (s + n)
      ∙ (ap (λ t. mapped (taken sh) (cond (nat_lt (t + n) e) (Some (t + n)) None)) p
      ∙ ap (λ t. mapped (taken sh) (cond (nat_lt (slice_index (starts sh) (index_of l) + n) t) (Some (slice_index (starts sh) (index_of l) + n)) None)) q)))

-- the key of the record before record i, if there is one
abbrev pub key_before : Sheet → ℕ → Option ℕ
key_before sh i = cond (i == 0) None (Some (key (record_at sh (i - 1))))

module _ (sh : Sheet) (i : ℕ) where
  rises_or : (b : Bool) (x y : ℕ) → given true (λ x. nat_lt x y) (cond b None (Some x)) ≡ b || nat_lt x y
  rises_or true x y = refl
  rises_or false x y = refl

  -- a key that rises is in order
  pub rises_in_order : (o : Option ℕ) (k : ℕ) → o ≡ key_before sh i → k ≡ key (record_at sh i) →
      given true (λ x. nat_lt x k) o ≡ in_order sh i
  rises_in_order o k e f =
      ap (given true (λ x. nat_lt x k)) e
      ∙ (ap (λ k. given true (λ x. nat_lt x k) (key_before sh i)) f
      ∙ rises_or (i == 0) (key (record_at sh (i - 1))) (key (record_at sh i)))

  pub next_before : (k : ℕ) → k ≡ key (record_at sh i) → Some k ≡ key_before sh (i + 1)
  next_before k e =
      let later : (i + 1 == 0) ≡ false = grind (arith, nat_tests) in
      let same : i + 1 - 1 ≡ i = omega arith in
      ap {B = Option ℕ} Some (e ∙ ap (λ j. key (record_at sh j)) (sym same))
      ∙ sym (ap {B = Option ℕ} (λ b. cond b None (Some (key (record_at sh (i + 1 - 1))))) later)

-- a record that was made of row i
module _ (bs : List ℕ) (i : ℕ) (rows : List (List ℕ)) (r : Record) (made : r ≡ record { bytes = get_or rows i [] })
    (all : rows ≡ rows_in (sheet bs)) (within : i < length rows) where
  pub record_row : r.bytes ≡ record_at (sheet bs) i
  record_row =
      let lt : i < count (sheet bs) = omega (arith, ap length all, length_rows (sheet bs)) in
      ap (λ q. q.bytes) made ∙ (ap (λ rs. get_or rs i []) all ∙ row_at (sheet bs) i [] lt)

  pub order_is : (o : Option ℕ) (k : ℕ) (x : Bool) → x ≡ given true (λ b. nat_lt b k) o → o ≡ key_before (sheet bs) i →
      k ≡ key r.bytes → x ≡ in_order (sheet bs) i
  order_is o k x e f g = e ∙ rises_in_order (sheet bs) i o k f (g ∙ ap key record_row)

  pub range_is : (x : Bool) → x ≡ in_range sixteen r.bytes → x ≡ in_range sixteen (record_at (sheet bs) i)
  range_is x e = e ∙ ap (in_range sixteen) record_row

  pub before_next : (k : ℕ) → k ≡ key r.bytes → Some k ≡ key_before (sheet bs) (i + 1)
  before_next k e = next_before (sheet bs) i k (e ∙ ap key record_row)

module _ (bs : List ℕ) (w : Sorted (sheet bs)) where
  module _ (k from to : ℕ) (b : Between (sheet bs) k from to) where
    abbrev part : List (List ℕ)
    part = take (to - from) (drop from (rows_in (sheet bs)))

    size : length part ≡ to - from
    size =
        omega (
          arith,
          length-take (to - from) (drop from (rows_in (sheet bs))),
          length-drop from (rows_in (sheet bs)),
          length_rows (sheet bs),
          b.within,
        )

    row : (j : ℕ) (d : List ℕ) → j < to - from → get_or part j d ≡ record_at (sheet bs) (from + j)
    row j d lt =
        get_or-take (to - from) (drop from (rows_in (sheet bs))) j d lt
        ∙ (get_or-drop from (rows_in (sheet bs)) j d ∙ row_at (sheet bs) (from + j) d (omega (arith, b.within)))

    -- a slice of the rows is parted by a key
    pub parted : IsPartitionedBy (λ r. ltb (key r) k) part
    parted i j d le lt passes =
        let low = ap (λ r. ltb (key r) k) (row i d (omega (arith, size))) in
        let high = ap (λ r. ltb (key r) k) (row j d (omega (arith, size))) in
        let rise = keys_rise (sheet bs) w (from + i) (from + j) (omega arith) (omega (arith, size, b.within)) in
        low ∙ grind (arith, nat_tests, sym high ∙ passes, rise)

    -- and there the key's position is
    pub parted_position : (i : ℕ) → i ≤ length part →
        IsPartitionPoint (λ r. ltb (key r) k ≡ true) (λ r. ltb (key r) k ≡ false) part i → from + i ≡ position (sheet bs) k
    parted_position i le p = sym (position_is (sheet bs) w k (from + i) (record {
      ordered = omega arith;
      within = omega (arith, size, b.ordered, b.within);
      under = λ j lt. ⊎_elim (λ (q : j < from). b.under j q) (λ (q : from ≤ j). low j q lt) (cases_lt j from);
      over = λ j ge lt. ⊎_elim (λ (q : j < to). high j ge q) (λ (q : to ≤ j). b.over j q lt) (cases_lt j to);
    }))
      where
        low : (j : ℕ) → from ≤ j → j < from + i → key (record_at (sheet bs) j) < k
        low j ge lt =
            let same : from + (j - from) ≡ j = omega arith in
            let is = ap (λ r. ltb (key r) k) (row (j - from) [] (omega (arith, size)) ∙ ap (record_at (sheet bs)) same) in
            let passes = sym is ∙ p.0 (j - from) [] (omega arith) (omega arith) in
            grind (arith, nat_tests)

        high : (j : ℕ) → from + i ≤ j → j < to → k ≤ key (record_at (sheet bs) j)
        high j ge lt =
            let same : from + (j - from) ≡ j = omega arith in
            let is = ap (λ r. ltb (key r) k) (row (j - from) [] (omega arith) ∙ ap (record_at (sheet bs)) same) in
            let fails = sym is ∙ p.1 (j - from) [] (omega arith) (omega (arith, size)) in
            grind (arith, nat_tests)
