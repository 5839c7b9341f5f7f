-- A run of things without a gap, as they are asked for one by one.
use Rattle.std.proofs.Common.{◌≡◌, ℕ, zero, suc, ◌≤◌, List, length, Some, None, Option, sym, refl, ◌∙◌, arith}
use Rattle.syntax.specs.Grammar.{Present}
use Rattle.table.specs.Automaton.{nth}
use Rattle.layout.specs.Choices.{before, run}
use Rattle.wellformed.proofs.Tests.{none_some}

module _ {X : Type 0} where
  pub length_run : (n : ℕ) (f : ℕ → Option X) → length (run n f) ≤ n
  unfolding run
  length_run zero f = omega arith
  length_run (suc n) f = go (f 0) _ (length_run n (λ k. f (suc k)))
    where
      go : (o : Option X) (xs : List X) → length xs ≤ n → length (before o xs) ≤ suc n
      go None xs le = omega arith
      go (Some x) xs le = omega arith

  abbrev Gapless : (ℕ → Option X) → Type 0
  Gapless f = (k : ℕ) → Present (f (suc k)) → Present (f k)

  -- behind the first that is absent there is none
  absent : (f : ℕ → Option X) → Gapless f → f 0 ≡ None → (k : ℕ) → f k ≡ None
  absent f gap e zero = e
  absent f gap e (suc k) = go (f (suc k)) refl (absent f gap e k)
    where
      go : (o : Option X) → f (suc k) ≡ o → f k ≡ None → o ≡ None
      go None h before = refl
      go (Some x) h before = let (y, there) = gap k (x, h) in absurd (none_some (sym before ∙ there))

  pub nth_run : (n : ℕ) (f : ℕ → Option X) → Gapless f → ((k : ℕ) → n ≤ k → f k ≡ None) → (k : ℕ) →
      nth (run n f) k ≡ f k
  unfolding run
  nth_run zero f gap few k = sym (few k (omega arith))
  nth_run (suc n) f gap few k =
      go (f 0) refl (nth_run n (λ k. f (suc k)) (λ k. gap (suc k)) (λ k le. few (suc k) (omega arith))) k
    where
      go : (o : Option X) → f 0 ≡ o → ((k : ℕ) → nth (run n (λ k. f (suc k))) k ≡ f (suc k)) →
          (k : ℕ) → nth (before o (run n (λ k. f (suc k)))) k ≡ f k
      go None e rest k = sym (absent f gap e k)
      go (Some x) e rest zero = sym e
      go (Some x) e rest (suc k) = rest k
