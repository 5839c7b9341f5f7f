-- The symbols and the sets that records hold, as lists.
use Rattle.std.proofs.Common.{◌≡◌, ℕ, zero, suc, ◌+◌, ◌<◌, List, [], ◌∷◌, length, drop, Some, None, Option, sym, refl, ap, subst, arith}
use Rattle.syntax.specs.Grammar.{InRange, Every, Present}
use Rattle.table.specs.Automaton.{nth}
use Rattle.layout.specs.Choices.{gather, before, run}
use Rattle.layout.specs.Records.{at, symbols}
use Rattle.wellformed.specs.Formed.{SymbolByte}
use Rattle.wellformed.proofs.Tests.{none_some, some_same}
use Rattle.wellformed.proofs.Lawful.{every_gather, symbol_in_range}

module _ {X : Type 0} where
  pub every_map : {P Q : X → Type 0} → ((x : X) → P x → Q x) → (xs : List X) → Every P xs → Every Q xs
  every_map f [] h = tt
  every_map f (x ∷ xs) h = (f x h.0, every_map f xs h.1)

  pub every_drop : (Q : X → Type 0) (d : ℕ) (xs : List X) → Every Q xs → Every Q (drop d xs)
  every_drop Q zero xs h = h
  every_drop Q (suc d) [] h = tt
  every_drop Q (suc d) (x ∷ xs) h = every_drop Q d xs h.1

  pub every_nth : (Q : X → Type 0) (xs : List X) (k : ℕ) (x : X) → Every Q xs → nth xs k ≡ Some x → Q x
  every_nth Q [] k x h e = absurd (none_some e)
  every_nth Q (y ∷ xs) zero x h e = subst Q (some_same e) h.0
  every_nth Q (y ∷ xs) (suc k) x h e = every_nth Q xs k x h.1 e

  pub every_run : (Q : X → Type 0) (n : ℕ) (f : ℕ → Option X) → ((k : ℕ) (x : X) → f k ≡ Some x → Q x) →
      Every Q (run n f)
  unfolding run
  every_run Q zero f h = tt
  every_run Q (suc n) f h = go (f 0) (h 0) _ (every_run Q n (λ k. f (suc k)) (λ k. h (suc k)))
    where
      go : (o : Option X) → ((x : X) → o ≡ Some x → Q x) → (xs : List X) → Every Q xs → Every Q (before o xs)
      go None here xs rest = tt
      go (Some x) here xs rest = (here x refl, rest)

  pub run_none : (n : ℕ) (f : ℕ → Option X) → f 0 ≡ None → run n f ≡ []
  unfolding run
  run_none zero f e = refl
  run_none (suc n) f e = ap (λ o. before o (run n (λ k. f (suc k)))) e

  first_present : (f : ℕ → Option X) → ((k : ℕ) → Present (f (suc k)) → Present (f k)) → (k : ℕ) → Present (f k) →
      Present (f 0)
  first_present f gapless zero h = h
  first_present f gapless (suc k) h = first_present f gapless k (gapless k h)

  -- where there is no gap, a run has all that is there
  pub all_run : (n : ℕ) (f : ℕ → Option X) → ((k : ℕ) → Present (f (suc k)) → Present (f k)) → (k : ℕ) → k < n →
      Present (f k) → k < length (run n f)
  unfolding run
  all_run zero f gapless k lt h = absurd (omega arith)
  all_run (suc n) f gapless k lt h =
      let (x, e) = first_present f gapless k h in
      let rest = run n (λ j. f (suc j)) in
      subst (λ o. k < length (before o rest)) (sym e) (go k (all_run n (λ j. f (suc j)) (λ j. gapless (suc j))) lt h)
    where
      go : (k : ℕ) → ((j : ℕ) → j < n → Present (f (suc j)) → j < length (run n (λ j. f (suc j)))) → k < suc n →
          Present (f k) → k < suc (length (run n (λ j. f (suc j))))
      go zero rec lt h = omega arith
      go (suc k) rec lt h = let le = rec k (omega arith) h in omega arith

pub symbols_in_range : (r : List ℕ) (n : ℕ) → ((k : ℕ) → k < n → SymbolByte (at r (8 + k))) →
    Every InRange (symbols r n)
symbols_in_range r n h = every_gather InRange n _ (λ k lt. symbol_in_range _ (h k lt))

pub no_symbols : (r : List ℕ) (n : ℕ) → n ≡ 0 → symbols r n ≡ []
unfolding gather
no_symbols r n e = ap (symbols r) e
