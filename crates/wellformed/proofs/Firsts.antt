-- The first number at which something is found, and the least that passes a test.
use Rattle.std.proofs.Common.{◌≡◌, ℕ, zero, suc, ◌+◌, ◌<◌, ◌≤◌, Bool, true, false, cond, ltb, ◌⊎◌, Some, None, Option, sym, refl, ◌∙◌, subst, inl, inr, ⊎_elim, add-one, arith}
use Rattle.std.proofs.lemmas.Bool.{cases_order, cases_lt, false≢true}
use Rattle.std.proofs.lemmas.Bool.Decides.{nat_tests}
use Rattle.layout.specs.Choices.{first, least}
use Rattle.wellformed.proofs.Tests.{none_some, or_none, or_some, some_or, below_or_last}

module _ {X : Type 0} (f : ℕ → Option X) where
  pub first_none : (n : ℕ) → ((k : ℕ) → k < n → f k ≡ None) → first f n ≡ None
  unfolding first
  first_none zero h = refl
  first_none (suc n) h = let e = first_none n (λ k lt. h k (omega arith)) in simp e (h n (omega arith))

  pub none_first : (n : ℕ) → first f n ≡ None → (k : ℕ) → k < n → f k ≡ None
  unfolding first
  none_first zero e k lt = absurd (omega arith)
  none_first (suc n) e k lt =
      let parts = or_none (first f n) (f n) e in
      below_or_last (λ k. f k ≡ None) n (none_first n parts.0) parts.1 k lt

  pub first_at : (n i : ℕ) (x : X) → ((k : ℕ) → k < i → f k ≡ None) → f i ≡ Some x → i < n → first f n ≡ Some x
  unfolding first
  first_at zero i x e h lt = absurd (omega arith)
  first_at (suc n) i x e h lt =
      ⊎_elim
      (λ (q : i ≡ n). let none = first_none n (λ k l. e k (omega arith)) in simp none (subst (λ k. f k ≡ Some x) q h))
      (⊎_elim (λ (q : i < n). some_or _ _ x (first_at n i x e h q)) (λ (q : n < i). absurd (omega arith)))
      (cases_order i n)

  pub first_some : (n : ℕ) (x : X) → first f n ≡ Some x →
      (i : ℕ) × (i < n) × (f i ≡ Some x) × ((k : ℕ) → k < i → f k ≡ None)
  unfolding first
  first_some zero x e = absurd (none_some e)
  first_some (suc n) x e = go (or_some (first f n) (f n) x e) (first_some n x)
    where
      go : (first f n ≡ Some x) ⊎ ((first f n ≡ None) × (f n ≡ Some x)) →
          (first f n ≡ Some x → (i : ℕ) × (i < n) × (f i ≡ Some x) × ((k : ℕ) → k < i → f k ≡ None)) →
          (i : ℕ) × (i < suc n) × (f i ≡ Some x) × ((k : ℕ) → k < i → f k ≡ None)
      go (inl y) rec = let r = rec y in (r.0, omega arith, r.2, r.3)
      go (inr y) rec = (n, omega arith, y.1, none_first n y.0)

  -- one more place at which nothing is found
  pub first_more : (i : ℕ) → first f i ≡ None → f i ≡ None → first f (i + 1) ≡ None
  unfolding first
  first_more i e h = rw add-one (simp e h)

-- k is the least number below n that passes f, or n where none does
pub record LeastAt (f : ℕ → Bool) (n k : ℕ) : Type 0 where
  pub within : k ≤ n
  pub none_below : (j : ℕ) → j < k → f j ≡ false
  pub hit : k < n → f k ≡ true

pub least_at : (f : ℕ → Bool) (n : ℕ) → LeastAt f n (least f n)
unfolding least
least_at f zero = record {
  within = omega arith;
  none_below = λ j lt. absurd (omega arith);
  hit = λ lt. absurd (omega arith);
}
least_at f (suc n) = go (least f n) (least_at f n) (cases_lt (least f n) n)
  where
    last : (k : ℕ) → LeastAt f n k → k ≡ n → (b : Bool) → f n ≡ b → LeastAt f (suc n) (cond b n (suc n))
    last k h q true e = record {
      within = omega arith;
      none_below = λ j lt. h.none_below j (omega arith);
      hit = λ lt. e;
    }
    last k h q false e = record {
      within = omega arith;
      none_below = below_or_last (λ j. f j ≡ false) n (λ j lt. h.none_below j (omega arith)) e;
      hit = λ lt. absurd (omega arith);
    }

    go : (k : ℕ) → LeastAt f n k → (k < n) ⊎ (n ≤ k) → LeastAt f (suc n) (cond (ltb k n) k (cond (f n) n (suc n)))
    go k h (inl q) =
        let e : cond (ltb k n) k (cond (f n) n (suc n)) ≡ k = grind (arith, nat_tests) in
        subst (LeastAt f (suc n)) (sym e) (record {
          within = omega (arith, h.within);
          none_below = h.none_below;
          hit = λ lt. h.hit q;
        })
    go k h (inr q) =
        let same : k ≡ n = omega (arith, h.within) in
        let e : cond (ltb k n) k (cond (f n) n (suc n)) ≡ cond (f n) n (suc n) = grind (arith, nat_tests) in
        subst (LeastAt f (suc n)) (sym e) (last k h same (f n) refl)

-- there is only one such number
pub one_least : (f : ℕ → Bool) (n j k : ℕ) → LeastAt f n j → LeastAt f n k → j ≡ k
one_least f n j k x y =
    ⊎_elim
    (λ (q : j ≡ k). q)
    (⊎_elim (λ (q : j < k). absurd (before j k q x y)) (λ (q : k < j). absurd (before k j q y x)))
    (cases_order j k)
  where
    before : (j k : ℕ) → j < k → LeastAt f n j → LeastAt f n k → ⊥
    before j k q x y = false≢true (sym (y.none_below j q) ∙ x.hit (omega (arith, y.within)))

pub least_is : (f : ℕ → Bool) (n k : ℕ) → LeastAt f n k → least f n ≡ k
least_is f n k h = one_least f n (least f n) k (least_at f n) h
