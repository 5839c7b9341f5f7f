-- Symbols on top, compared one by one from the far end.
use Rattle.std.proofs.Common.{◌≡◌, ℕ, zero, suc, ◌+◌, ◌-◌, ◌<◌, ◌≤◌, Bool, ◌&&◌, List, [], ◌∷◌, ◌++◌, length, drop, Some, None, Option, sym, refl, ap, ◌∙◌, suc-add, zero-add, arith}
use Rattle.std.proofs.lemmas.List.{length-drop}
use Rattle.std.proofs.lemmas.Bool.{le-leb}
use Rattle.syntax.specs.declared.Symbol.{Symbol}
use Rattle.table.specs.Automaton.{nth}
use Rattle.table.specs.Hints.{incoming_list}
use Rattle.layout.specs.Choices.{below}
use Rattle.layout.specs.Checking.{same_symbols, ends}
use Rattle.wellformed.proofs.Loops.{below_shift}
use Rattle.safety.specs.Parts.{same_ones}
use Rattle.wellformed.proofs.Tests.{below_same}

-- THE TRAIL OF A STATE

pub trail_below : (xs : List Symbol) (o : Option Symbol) (k : ℕ) → k < length xs →
    nth xs k ≡ nth (xs ++ incoming_list o) k
trail_below [] o k lt = absurd (omega arith)
trail_below (x ∷ xs) o zero lt = refl
trail_below (x ∷ xs) o (suc k) lt = trail_below xs o k (omega arith)

pub trail_last : (xs : List Symbol) (o : Option Symbol) (k : ℕ) → k ≡ length xs → o ≡ nth (xs ++ incoming_list o) k
trail_last [] None k e = refl
trail_last [] (Some X) zero e = refl
trail_last [] (Some X) (suc k) e = absurd (omega arith)
trail_last (x ∷ xs) o zero e = absurd (omega arith)
trail_last (x ∷ xs) o (suc k) e = trail_last xs o k (omega arith)

pub trail_beyond : (xs : List Symbol) (o : Option Symbol) (k : ℕ) → length xs < k → None ≡ nth (xs ++ incoming_list o) k
trail_beyond [] None k lt = refl
trail_beyond [] (Some X) zero lt = absurd (omega arith)
trail_beyond [] (Some X) (suc k) lt = refl
trail_beyond (x ∷ xs) o zero lt = absurd (omega arith)
trail_beyond (x ∷ xs) o (suc k) lt = trail_beyond xs o k (omega arith)

-- THE LAST SYMBOLS

nth_drop : (n : ℕ) (ys : List Symbol) (k : ℕ) → nth (drop n ys) k ≡ nth ys (n + k)
nth_drop zero ys k = ap (nth ys) (sym (zero-add k))
nth_drop (suc n) [] k = refl
nth_drop (suc n) (y ∷ ys) k = nth_drop n ys k ∙ ap (nth (y ∷ ys)) (sym (suc-add n k))

one_for_one : (xs zs : List Symbol) → length xs ≡ length zs →
    same_symbols xs zs ≡ below (length xs) (λ k. same_ones (nth xs k) (nth zs k))
unfolding same_symbols below
one_for_one [] [] e = refl
one_for_one [] (z ∷ zs) e = absurd (omega arith)
one_for_one (x ∷ xs) [] e = absurd (omega arith)
one_for_one (x ∷ xs) (z ∷ zs) e =
    ap (λ b. same_ones (Some x) (Some z) && b) (one_for_one xs zs (omega arith))
    ∙ sym (below_shift (length xs) (λ k. same_ones (nth (x ∷ xs) k) (nth (z ∷ zs) k)))

-- the test of symbol k
abbrev pub fits_at : List Symbol → List Symbol → ℕ → Bool
fits_at xs ys k = same_ones (nth xs k) (nth ys (length ys - length xs + k))

pub ends_is : (xs ys : List Symbol) → length xs ≤ length ys → ends xs ys ≡ below (length xs) (fits_at xs ys)
ends_is xs ys le =
    let n = length ys - length xs in
    let long : length xs ≡ length (drop n ys) = omega (arith, length-drop n ys) in
    ap (λ b. b && same_symbols xs (drop n ys)) (le-leb (length xs) (length ys) le)
    ∙ one_for_one xs (drop n ys) long
    ∙ below_same (length xs) _ (fits_at xs ys) (λ k lt. ap (same_ones (nth xs k)) (nth_drop n ys k))
