-- Tests of the numbers below a bound, made in order.
use Rattle.std.proofs.Common.{◌≡◌, ℕ, zero, suc, ◌+◌, Bool, true, false, cond, ◌&&◌, List, [], ◌∷◌, ◌++◌, refl, ap, ◌∙◌, ap₂, arith}
use Rattle.std.specs.List.{range_with_len, list_all, filter}
use Rattle.std.proofs.Math.Bool.{and_comm}
use Rattle.std.proofs.lemmas.List.Folds.{list_all-append}
use Rattle.layout.specs.Choices.{implies, below}

range_more : (a n b : ℕ) → a + n ≡ b → range_with_len a (suc n) ≡ range_with_len a n ++ b ∷ []
range_more a zero b e = let is : a ≡ b = omega arith in ap (λ k. k ∷ []) is
range_more a (suc n) b e = ap (λ ks. a ∷ ks) (range_more (a + 1) n b (omega arith))

-- all of them pass
pub all_in_range : (n : ℕ) (f : ℕ → Bool) → list_all f (range_with_len 0 n) ≡ below n f
unfolding below
all_in_range zero f = refl
all_in_range (suc n) f =
    ap (list_all f) (range_more 0 n n (omega arith))
    ∙ list_all-append f (range_with_len 0 n) (n ∷ [])
    ∙ ap₂ (λ x y. x && y) (all_in_range n f) (and_comm (f n) true)
    ∙ and_comm (below n f) (f n)

-- all those pass that pass another test
pub all_filtered : (n : ℕ) (p f : ℕ → Bool) →
    list_all f (filter p (range_with_len 0 n)) ≡ below n (λ k. implies (p k) (f k))
all_filtered n p f = if_passed (range_with_len 0 n) ∙ all_in_range n (λ k. implies (p k) (f k))
  where
    one : (b : Bool) (k : ℕ) (ks : List ℕ) →
        list_all f (cond b (k ∷ ks) ks) ≡ implies b (f k) && list_all f ks
    one true k ks = refl
    one false k ks = refl

    if_passed : (ks : List ℕ) → list_all f (filter p ks) ≡ list_all (λ k. implies (p k) (f k)) ks
    if_passed [] = refl
    if_passed (k ∷ ks) = one (p k) k (filter p ks) ∙ ap (λ b. implies (p k) (f k) && b) (if_passed ks)
