-- The longest run at the front, and what it comes to as a word and as a number.
use Rattle.std.proofs.Common.{◌≡◌, ℕ, ◌+◌, ◌*◌, ◌^◌, ◌<◌, ◌≤◌, Bool, true, false, leb, List, map, length, get_or, take, drop, Ok, Err, sym, refl, ap, ◌∙◌, ap₂, ⊎_elim, arith, pow-add}
use Rattle.std.specs.Int.Digits.{number_from_digits}
use Rattle.std.proofs.lemmas.Int.Digits.{number_more, number_push, number_after_append, number_after_ge}
use Rattle.std.proofs.lemmas.List.{length-take-le, map-append, map_more, take-append-drop, take-take}
use Rattle.std.proofs.lemmas.List.Sums.{prefix_len-drop_yes, prefix_len-le-length, prefix_len_is, prefix_len_passes, prefix_len_stops}
use Rattle.std.proofs.lemmas.List.Folds.{length-prefix_len}
use Rattle.std.proofs.lemmas.Bool.{true≢false, cases_lt, cond-true, cond-false, le-leb, lt-leb}
use Rattle.source.specs.declared.SourceFault.TheVariants.{LongWord, LargeNumber}
use Rattle.lexing.specs.Plans.{is_letter, is_digit, run, spelled, digit, decimal, token, word, numeral}

module _ (f : ℕ → Bool) (bs : List ℕ) where
  pub length_run_le : length (run f bs) ≤ length bs
  length_run_le = omega (arith, length-prefix_len f bs, prefix_len-le-length f bs)

  -- so many bytes at the front as the run has are the run
  pub run_front : (n : ℕ) → n ≡ length (run f bs) → take n bs ≡ run f bs
  run_front n h = ap (λ k. take k bs) (h ∙ length-prefix_len f bs)

  -- each byte of the run passes
  pub run_passes : (k : ℕ) → k < length (run f bs) → f (get_or bs k 0) ≡ true
  run_passes k h = prefix_len_passes f bs k 0 (omega (arith, length-prefix_len f bs))

  -- the byte behind it does not
  pub run_behind : length (run f bs) < length bs → f (get_or bs (length (run f bs)) 0) ≡ false
  run_behind h =
      let e = length-prefix_len f bs in
      ap (λ n. f (get_or bs n 0)) e ∙ prefix_len_stops f bs 0 (omega arith)

  -- a front of which every byte passes, with a byte behind it that does not, is the run
  pub run_is :
      (n : ℕ) → n ≤ length bs → ((k : ℕ) → k < n → f (get_or bs k 0) ≡ true)
      → (n < length bs → f (get_or bs n 0) ≡ false) → run f bs ≡ take n bs
  run_is n few passes stops = ap (λ k. take k bs) (prefix_len_is f bs n 0 few passes stops)

  -- from a byte that passes on, there is a run
  pub run_some : (i : ℕ) → i < length bs → f (get_or bs i 0) ≡ true → 1 ≤ length (run f (drop i bs))
  run_some i h pass = omega (arith, length-prefix_len f (drop i bs), prefix_len-drop_yes f bs i 0 h pass)

-- a word and a number, by their two cases
module _ (p : ℕ) (bs : List ℕ) where
  pub word_ok : length bs ≤ 8 → Ok (token 1 p (length bs) (spelled bs)) ≡ word p bs
  word_ok h = sym (cond-true (leb (length bs) 8) _ (Err (LongWord p 0)) (le-leb _ 8 h))

  pub word_err : 8 < length bs → Err (LongWord p 0) ≡ word p bs
  word_err h = sym (cond-false (leb (length bs) 8) (Ok (token 1 p (length bs) (spelled bs))) _ (lt-leb _ 8 h))

  pub numeral_ok : decimal bs ≤ 4294967295 → Ok (token 2 p (length bs) (decimal bs)) ≡ numeral p bs
  numeral_ok h = sym (cond-true (leb (decimal bs) 4294967295) _ (Err (LargeNumber p 0)) (le-leb _ 4294967295 h))

  pub numeral_err : 4294967295 < decimal bs → Err (LargeNumber p 0) ≡ numeral p bs
  numeral_err h =
      let t = token 2 p (length bs) (decimal bs) in
      sym (cond-false (leb (decimal bs) 4294967295) (Ok t) _ (lt-leb _ 4294967295 h))

-- the first i bytes pass
abbrev pub Passing : (ℕ → Bool) → List ℕ → ℕ → Type 0
Passing f bs i = (k : ℕ) → k < i → f (get_or bs k 0) ≡ true

module _ (f : ℕ → Bool) (bs : List ℕ) where
  -- then the run has them all
  pub run_long : (i : ℕ) → i ≤ length bs → Passing f bs i → i ≤ length (run f bs)
  run_long i few passes =
      ⊎_elim
      (λ lt. let stop = run_behind f bs (omega arith) in
      let never : true ≡ false = sym (passes (length (run f bs)) lt) ∙ stop in
      absurd (true≢false never))
      (λ ge. ge)
      (cases_lt (length (run f bs)) i)

-- what the first i letters come to
module _ (bs : List ℕ) (i v : ℕ) where
  pub spelled_more :
      i < length bs → v ≡ spelled (take i bs) → v * 256 + get_or bs i 0 ≡ spelled (take (i + 1) bs)
  spelled_more h e = ap (λ n. n * 256 + get_or bs i 0) e ∙ sym (number_more 256 bs i h)

  -- they have room in 8 * i bits
  pub spelled_room : v < 2 ^ (8 * i) → get_or bs i 0 < 256 → v * 256 + get_or bs i 0 < 2 ^ (8 * (i + 1))
  spelled_room h low =
      let e : 2 ^ (8 * (i + 1)) ≡ 2 ^ (8 * i) * 256 = ap (λ k. 2 ^ k) (omega arith) ∙ pow-add 2 (8 * i) 8 in
      omega arith

  pub decimal_more :
      i < length bs → v ≡ decimal (take i bs) → v * 10 + digit (get_or bs i 0) ≡ decimal (take (i + 1) bs)
  decimal_more h e =
      ap (λ n. n * 10 + digit (get_or bs i 0)) e
      ∙ sym (ap (number_from_digits 10) (map_more digit bs i 0 h)
      ∙ number_push 10 (map digit (take i bs)) (digit (get_or bs i 0)))

-- what more digits come to is no less
pub decimal_front : (n : ℕ) (ds : List ℕ) → decimal (take n ds) ≤ decimal ds
decimal_front n ds =
    let front = map digit (take n ds) in
    let back = map digit (drop n ds) in
    let e = sym (ap decimal (take-append-drop n ds)) ∙ ap (number_from_digits 10) (map-append digit (take n ds) (drop n ds))
    ∙ number_after_append 10 0 front back in
    omega (arith, e, number_after_ge 10 (number_from_digits 10 front) back (omega arith))

-- the item, where the first i bytes pass and the next one, if any, does not
module _ (bs : List ℕ) (i v p : ℕ) (few : i ≤ length bs) where
  pub word_done :
      Passing is_letter bs i → (i < length bs → is_letter (get_or bs i 0) ≡ false) → i ≤ 8 → v ≡ spelled (take i bs)
      → Ok (token 1 p i v) ≡ word p (run is_letter bs)
  word_done passes stops short e =
      let all = run_is is_letter bs i few passes stops in
      let n = length-take-le i bs few in
      ap₂ (λ k w. Ok (token 1 p k w)) (sym n) e ∙ word_ok p (take i bs) (omega arith) ∙ ap (word p) (sym all)

  pub numeral_done :
      Passing is_digit bs i → (i < length bs → is_digit (get_or bs i 0) ≡ false) → v ≤ 4294967295
      → v ≡ decimal (take i bs) → Ok (token 2 p i v) ≡ numeral p (run is_digit bs)
  numeral_done passes stops small e =
      let all = run_is is_digit bs i few passes stops in
      let n = length-take-le i bs few in
      ap₂ (λ k w. Ok (token 2 p k w)) (sym n) e ∙ numeral_ok p (take i bs) (omega arith) ∙ ap (numeral p) (sym all)

  pub word_long : Passing is_letter bs i → 8 < i → Err (LongWord p 0) ≡ word p (run is_letter bs)
  word_long passes long = word_err p (run is_letter bs) (omega (arith, run_long is_letter bs i few passes))

  pub numeral_large :
      Passing is_digit bs i → v ≡ decimal (take i bs) → 4294967295 < v
      → Err (LargeNumber p 0) ≡ numeral p (run is_digit bs)
  numeral_large passes e large =
      let n = length (run is_digit bs) in
      let whole = run_front is_digit bs n refl in
      let front = take-take i n bs (run_long is_digit bs i few passes) in
      let same : take i (run is_digit bs) ≡ take i bs = ap (take i) (sym whole) ∙ front in
      numeral_err p (run is_digit bs) (omega (arith, e, ap decimal same, decimal_front i (run is_digit bs)))
