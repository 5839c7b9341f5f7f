-- A test of each byte, over a list and over numbered places.
use Rattle.std.proofs.Common.{◌≡◌, ℕ, zero, suc, ◌+◌, ◌-◌, ◌<◌, ◌≤◌, Bool, true, ◌&&◌, ◌==◌, nat_le, List, [], ◌∷◌, length, take, drop, sym, refl, ap, ◌∙◌, ⊎_elim, arith, length-drop, length-take, add_assoc}
use Rattle.std.specs.List.{list_all}
use Rattle.std.specs.List.{IsSplitAt}
use Rattle.std.proofs.lemmas.Bool.{cases_lt, le-leb}
use Rattle.std.proofs.lemmas.List.{drop-take, get_or-drop, drop_all, take_rest}
use Rattle.layout.specs.Choices.{below}
use Rattle.layout.specs.Records.{sixteen, at}
use Rattle.layout.specs.Opening.{symbol_byte, symbol_bytes}
use Rattle.wellformed.proofs.Loops.{below_shift}

module _ (p : ℕ → Bool) where
  -- each of a list
  pub all_below : (xs : List ℕ) → list_all p xs ≡ below (length xs) (λ k. p (at xs k))
  unfolding below
  all_below [] = refl
  all_below (x ∷ xs) =
      ap (λ b. p x && b) (all_below xs) ∙ sym (below_shift (length xs) (λ k. p (at (x ∷ xs) k)))

  below_passes : p 0 ≡ true → (n : ℕ) → true ≡ below n (λ k. p 0)
  unfolding below
  below_passes e zero = refl
  below_passes e (suc n) = sym (ap (λ b. b && below n (λ k. p 0)) e ∙ sym (below_passes e n))

  -- the first n; places beyond the list read as 0
  pub all_first : (n : ℕ) (xs : List ℕ) → (length xs < n → p 0 ≡ true) →
      list_all p (take n xs) ≡ below n (λ k. p (at xs k))
  unfolding below
  all_first zero xs e = refl
  all_first (suc n) [] e = below_passes (e (omega arith)) (suc n)
  all_first (suc n) (x ∷ xs) e =
      ap (λ b. p x && b) (all_first n xs (λ lt. e (omega arith))) ∙ sym (below_shift n (λ k. p (at (x ∷ xs) k)))

  -- those from k on, before m
  pub all_range : p 0 ≡ true → (xs : List ℕ) (k m : ℕ) →
      list_all p (drop k (take m xs)) ≡ below (m - k) (λ j. p (at xs (k + j)))
  unfolding below
  all_range e xs k m = ⊎_elim none some (cases_lt m k)
    where
      none : m < k → list_all p (drop k (take m xs)) ≡ below (m - k) (λ j. p (at xs (k + j)))
      none q =
          let is : m - k ≡ 0 = omega arith in
          let short : length (take m xs) ≤ k = omega (arith, length-take {A = ℕ}) in
          ap (list_all p) (drop_all k (take m xs) short) ∙ sym (ap (λ n. below n (λ j. p (at xs (k + j)))) is)

      some : k ≤ m → list_all p (drop k (take m xs)) ≡ below (m - k) (λ j. p (at xs (k + j)))
      some q =
          let is : k + (m - k) ≡ m = omega arith in
          ap (λ n. list_all p (drop k (take n xs))) (sym is)
          ∙ (ap (list_all p) (drop-take k (m - k) xs) ∙ (all_first (m - k) (drop k xs) (λ lt. e) ∙ simp get_or-drop))

-- symbols up to a place, and then only the byte for none
pub symbols_split : (bs : List ℕ) (n : ℕ) (front rest : List ℕ) → length bs ≡ 16 →
    IsSplitAt (take (length bs - 8) (drop 8 bs)) n front rest →
    symbol_bytes sixteen bs n ≡ list_all symbol_byte front && list_all (λ b. b == 255) rest
symbols_split bs n front rest e s =
    let s = rw take_rest at s in
    let le : n ≤ 8 = omega (arith, s.0, length-drop 8 bs) in
    let fits : nat_le n 8 ≡ true = le-leb n 8 le in
    let size : length (drop n (drop 8 bs)) ≡ 8 - n = omega (arith, length-drop n (drop 8 bs), length-drop 8 bs) in
    let symbols : list_all symbol_byte front ≡ below n (λ k. symbol_byte (at bs (8 + k))) =
    ap (list_all symbol_byte) s.1
    ∙ (all_first symbol_byte n (drop 8 bs) (λ lt. absurd (omega (arith, s.0))) ∙ simp get_or-drop)
    in
    let none : list_all (λ b. b == 255) rest ≡ below (8 - n) (λ k. at bs (8 + n + k) == 255) =
    ap (list_all (λ b. b == 255)) s.2
    ∙ (all_below (λ b. b == 255) (drop n (drop 8 bs)) ∙ simp (size, get_or-drop, add_assoc))
    in
    simp (fits, symbols, none)
