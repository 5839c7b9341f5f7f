-- The entries of a row by index, and what a test of each of them says of any index.
use Rattle.std.proofs.Common.{◌≡◌, ℕ, zero, suc, Bool, true, T, List, [], ◌∷◌, ◌++◌, map, get_or, replicate, Some, None, Option, refl, subst}
use Rattle.syntax.specs.declared.Symbol.{Symbol}
use Rattle.syntax.specs.Grammar.{Rule, Present}
use Rattle.table.specs.Automaton.{nth, head, symbol_at}
use Rattle.layout.specs.Choices.{given}
use Rattle.wellformed.proofs.Tests.{T_and, none_some, some_same}
use Rattle.dense.specs.Rows.{cell, heads, right_rows}
use Rattle.dense.specs.LawTests.{each_at, each_cell}

-- BY INDEX

module _ {A : Type 0} where
  -- entries are numbered from 0 without a gap
  pub nth_gapless : (xs : List A) (k : ℕ) → Present (nth xs (suc k)) → Present (nth xs k)
  nth_gapless [] k h = h
  nth_gapless (x ∷ xs) zero h = (x, refl)
  nth_gapless (x ∷ xs) (suc k) h = nth_gapless xs k h

-- PRODUCTIONS AS THEY ARE STORED

pub head_at : (rules : List Rule) (p : ℕ) → nth (heads rules) p ≡ head (nth rules p)
head_at [] p = refl
head_at (r ∷ rules) zero = refl
head_at (r ∷ rules) (suc p) = head_at rules p

none_filled : (n k : ℕ) → get_or (replicate {A = Option Symbol} n None) k None ≡ None
none_filled zero k = refl
none_filled (suc n) zero = refl
none_filled (suc n) (suc k) = none_filled n k

symbol_filled : (α : List Symbol) (n k : ℕ) → get_or (map Some α ++ replicate n None) k None ≡ nth α k
symbol_filled [] n k = none_filled n k
symbol_filled (X ∷ α) n zero = refl
symbol_filled (X ∷ α) n (suc k) = symbol_filled α n k

pub right_symbol_at : (width : ℕ) (rules : List Rule) (p k : ℕ) →
    cell (right_rows width rules) None p k ≡ symbol_at (nth rules p) k
right_symbol_at width [] p k = refl
right_symbol_at width (r ∷ rules) zero k = symbol_filled r.right _ k
right_symbol_at width (r ∷ rules) (suc p) k = right_symbol_at width rules p k

-- TESTS OF EACH ENTRY

module _ {A : Type 0} where
  -- what passes at each entry and beyond them passes at any index
  pub at_each : (f : ℕ → A → Bool) (xs : List A) (d : A) → T (each_at f xs) → ((k : ℕ) → T (f k d)) →
      (k : ℕ) → T (f k (get_or xs k d))
  unfolding each_at
  at_each f [] d h beyond k = beyond k
  at_each f (x ∷ xs) d h beyond zero = (T_and _ _ h).0
  at_each f (x ∷ xs) d h beyond (suc k) = at_each (λ k. f (suc k)) xs d (T_and _ _ h).1 (λ k. beyond (suc k)) k

  pub at_found : (f : ℕ → A → Bool) (xs : List A) → T (each_at f xs) → (k : ℕ) (x : A) → nth xs k ≡ Some x → T (f k x)
  unfolding each_at
  at_found f [] h k x e = absurd (none_some e)
  at_found f (y ∷ xs) h zero x e = subst (λ z. T (f 0 z)) (some_same e) (T_and _ _ h).0
  at_found f (y ∷ xs) h (suc k) x e = at_found (λ k. f (suc k)) xs (T_and _ _ h).1 k x e

module _ {A : Type 0} where
  pub at_each_cell : (f : ℕ → ℕ → A → Bool) (rows : List (List A)) (d : A) → T (each_cell f rows) →
      ((i k : ℕ) → T (f i k d)) → (i k : ℕ) → T (f i k (cell rows d i k))
  unfolding each_at
  at_each_cell f rows d h beyond i k =
      at_each (f i) (get_or rows i []) d (at_each (λ i. each_at (f i)) rows [] h (λ i. tt) i) (beyond i) k

  -- of options: what is found at an index passes its test
  pub some_at : (f : ℕ → A → Bool) (xs : List (Option A)) → T (each_at (λ k. given true (f k)) xs) →
      (k : ℕ) (x : A) → get_or xs k None ≡ Some x → T (f k x)
  some_at f xs h k x e =
      subst (λ o. T (given true (f k) o)) e (at_each (λ k. given true (f k)) xs None h (λ k. tt) k)

module _ {A : Type 0} where
  pub some_cell : (f : ℕ → ℕ → A → Bool) (rows : List (List (Option A))) →
      T (each_cell (λ i k. given true (f i k)) rows) → (i k : ℕ) (x : A) → cell rows None i k ≡ Some x → T (f i k x)
  some_cell f rows h i k x e =
      subst (λ o. T (given true (f i k) o)) e
      (at_each_cell (λ i k. given true (f i k)) rows None h (λ i k. tt) i k)
