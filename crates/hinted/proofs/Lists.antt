-- What is left of a list from a place on.
use Rattle.std.proofs.Common.{◌≡◌, ℕ, zero, suc, ◌+◌, List, [], ◌∷◌, drop, Some, None, sym, refl, ap, ◌∙◌, add-one}
use Rattle.table.specs.Automaton.{nth}
use Rattle.layout.specs.Choices.{given}

module _ {A : Type 0} where
  some_same : {x y : A} → Some x ≡ Some y → x ≡ y
  some_same {x = x} e = ap (given x (λ z. z)) e

  -- there is a k-th: the rest of the list begins with it
  pub nth_some : (xs : List A) (k : ℕ) (x : A) → nth xs k ≡ Some x → drop k xs ≡ x ∷ drop (k + 1) xs
  nth_some [] k x e = absurd (cc)
  nth_some (y ∷ ys) zero x e = ap (λ z. z ∷ ys) (some_same e)
  nth_some (y ∷ ys) (suc k) x e =
      nth_some ys k x e ∙ ap (λ n. x ∷ drop n (y ∷ ys)) (ap suc (add-one k) ∙ sym (add-one (suc k)))

  -- there is none: nothing is left
  pub nth_none : (xs : List A) (k : ℕ) → nth xs k ≡ None → drop k xs ≡ []
  nth_none [] zero e = refl
  nth_none [] (suc k) e = refl
  nth_none (y ∷ ys) zero e = absurd (cc)
  nth_none (y ∷ ys) (suc k) e = nth_none ys k e
