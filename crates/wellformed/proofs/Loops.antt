-- The steps of a loop that tests the numbers below a bound, one by one.
use Rattle.std.proofs.Common.{◌≡◌, ℕ, zero, suc, ◌+◌, ◌<◌, ◌≤◌, Bool, true, false, cond, ◌&&◌, ◌||◌, ltb, Some, None, Ok, Err, Option, sym, refl, ap, ◌∙◌, subst, ⊎_elim, add-one, arith}
use Rattle.std.proofs.lemmas.Bool.{cases_order, cases_lt, lt-ltb, le-ltb}
use Rattle.table.specs.Automaton.{nth}
use Rattle.layout.specs.declared.Refusal.{Refusal}
use Rattle.layout.specs.Refusals.{answered}
use Rattle.layout.specs.Choices.{unless, first, below, some_below, every, gather}
use Rattle.wellformed.proofs.Firsts.{first_at, none_first}

pub below_start : (f : ℕ → Bool) → below 0 f ≡ true
unfolding below
below_start f = refl

pub below_more : (f : ℕ → Bool) (i : ℕ) → below i f ≡ true → f i ≡ true → below (i + 1) f ≡ true
unfolding below
below_more f i e h = rw add-one (simp (e, h))

pub below_fails : (f : ℕ → Bool) (n i : ℕ) → i < n → f i ≡ false → below n f ≡ false
unfolding below
below_fails f zero i lt h = absurd (omega arith)
below_fails f (suc n) i lt h =
    ⊎_elim
    (λ (q : i ≡ n). let h' = rw q at h in simp h')
    (⊎_elim (λ (q : i < n). let e = below_fails f n i q h in last (f n) e) (λ (q : n < i). absurd (omega arith)))
    (cases_order i n)
  where
    last : (b : Bool) {c : Bool} → c ≡ false → b && c ≡ false
    last true e = e
    last false e = refl

pub some_start : (f : ℕ → Bool) → some_below 0 f ≡ false
unfolding some_below
some_start f = refl

pub some_more : (f : ℕ → Bool) (i : ℕ) → some_below i f ≡ false → f i ≡ false → some_below (i + 1) f ≡ false
unfolding some_below
some_more f i e h = rw add-one (simp (e, h))

pub some_hit : (f : ℕ → Bool) (n i : ℕ) → i < n → f i ≡ true → some_below n f ≡ true
unfolding some_below
some_hit f zero i lt h = absurd (omega arith)
some_hit f (suc n) i lt h =
    ⊎_elim
    (λ (q : i ≡ n). let h' = rw q at h in simp h')
    (⊎_elim (λ (q : i < n). let e = some_hit f n i q h in last (f n) e) (λ (q : n < i). absurd (omega arith)))
    (cases_order i n)
  where
    last : (b : Bool) {c : Bool} → c ≡ true → b || c ≡ true
    last true e = refl
    last false e = e

-- LISTS THAT ARE GATHERED FROM A FUNCTION

and_swap : (a b c : Bool) → a && (b && c) ≡ b && (a && c)
and_swap true b c = refl
and_swap false true c = refl
and_swap false false c = refl

pub below_shift : (n : ℕ) (f : ℕ → Bool) → below (suc n) f ≡ f 0 && below n (λ k. f (suc k))
unfolding below
below_shift zero f = refl
below_shift (suc n) f =
    ap (λ b. f (suc n) && b) (below_shift n f) ∙ and_swap (f (suc n)) (f 0) (below n (λ k. f (suc k)))

-- each of them passes
pub every_gather : {X : Type 0} (f : X → Bool) (n : ℕ) (g : ℕ → X) → every f (gather n g) ≡ below n (λ k. f (g k))
unfolding every gather below
every_gather f zero g = refl
every_gather f (suc n) g =
    ap (λ b. f (g 0) && b) (every_gather f n (λ k. g (suc k))) ∙ sym (below_shift n (λ k. f (g k)))

nth_gather : {X : Type 0} (n : ℕ) (g : ℕ → X) (k : ℕ) → k < n → nth (gather n g) k ≡ Some (g k)
unfolding gather
nth_gather zero g k lt = absurd (omega arith)
nth_gather (suc n) g zero lt = refl
nth_gather (suc n) g (suc k) lt = nth_gather n (λ k. g (suc k)) k (omega arith)

nth_beyond : {X : Type 0} (n : ℕ) (g : ℕ → X) (k : ℕ) → n ≤ k → nth (gather n g) k ≡ None
unfolding gather
nth_beyond zero g k le = refl
nth_beyond (suc n) g zero le = absurd (omega arith)
nth_beyond (suc n) g (suc k) le = nth_beyond n (λ k. g (suc k)) k (omega arith)

pub nth_gather_or : {X : Type 0} (n : ℕ) (g : ℕ → X) (k : ℕ) → nth (gather n g) k ≡ cond (ltb k n) (Some (g k)) None
nth_gather_or n g k =
    ⊎_elim
    (λ (q : k < n). nth_gather n g k q ∙ sym (ap (λ b. cond b (Some (g k)) None) (lt-ltb k n q)))
    (λ (q : n ≤ k). nth_beyond n g k q ∙ sym (ap (λ b. cond b (Some (g k)) None) (le-ltb k n q)))
    (cases_lt k n)

-- THE LOOP OF A PASS

pub unless_fails : {X : Type 0} {b : Bool} (x : X) → b ≡ false → unless b x ≡ Some x
unless_fails x e = ap (λ b. unless b x) e

pub unless_passes : {X : Type 0} {b : Bool} (x : X) → b ≡ true → unless b x ≡ None
unless_passes x e = ap (λ b. unless b x) e

pub first_start : {X : Type 0} (f : ℕ → Option X) → first f 0 ≡ None
unfolding first
first_start f = refl

pub refuses_at : (f : ℕ → Option Refusal) (n i : ℕ) (x : Refusal) → first f i ≡ None → f i ≡ Some x → i < n →
    Err x ≡ answered (first f n)
refuses_at f n i x e h lt = sym (ap answered (first_at f n i x (none_first f i e) h lt))

pub refuses_nothing : (f : ℕ → Option Refusal) (n i : ℕ) → first f i ≡ None → i ≡ n → Ok tt ≡ answered (first f n)
refuses_nothing f n i e is = sym (ap answered (subst (λ k. first f k ≡ None) is e))
