-- Tests, options, and what a test over a range of numbers says.
use Rattle.std.proofs.Common.{◌≡◌, ℕ, zero, suc, ◌<◌, Bool, true, false, not, ◌&&◌, ◌||◌, T, eqb, ◌⊎◌, Some, None, Option, sym, refl, ap, ap₂, subst, inl, inr, ⊎_elim, arith}
use lib.Dec.{eqb_refl}
use Rattle.std.proofs.lemmas.Bool.{cases_order}
use Rattle.layout.specs.Choices.{or_else, mapped, given, present, unless, implies, below, some_below}

pub eq_T : (a b : ℕ) → a ≡ b → T (eqb a b)
eq_T a b e = subst (λ x. T (eqb a x)) e (eqb_refl a)

pub some_same : {X : Type 0} {x y : X} → Some x ≡ Some y → x ≡ y
some_same {x = x} e = ap (given x (λ z. z)) e

pub none_some : {X : Type 0} {x : X} → None ≡ Some x → ⊥
none_some e = subst (λ o. T (not (present o))) e tt

pub T_and : (x y : Bool) → T (x && y) → T x × T y
T_and true y h = (tt, h)
T_and false y h = absurd h

pub and_T : (x y : Bool) → T x → T y → T (x && y)
and_T true y h k = k
and_T false y h k = h

pub T_or : (x y : Bool) → T (x || y) → T x ⊎ T y
T_or true y h = inl h
T_or false y h = inr h

pub or_T : (x y : Bool) → T x ⊎ T y → T (x || y)
or_T true y h = tt
or_T false y (inl h) = absurd h
or_T false y (inr h) = h

pub T_implies : (x y : Bool) → T (implies x y) → T x → T y
T_implies true y h k = h
T_implies false y h k = absurd k

pub implies_T : (x y : Bool) → (T x → T y) → T (implies x y)
implies_T true y f = f tt
implies_T false y f = tt

-- a number below suc n is n or below it
pub below_or_last : (P : ℕ → Type 0) (n : ℕ) → ((k : ℕ) → k < n → P k) → P n → (k : ℕ) → k < suc n → P k
below_or_last P n less last k lt =
    ⊎_elim
    (λ (q : k ≡ n). subst P (sym q) last)
    (⊎_elim (λ (q : k < n). less k q) (λ (q : n < k). absurd (omega arith)))
    (cases_order k n)

pub T_below : (n : ℕ) (f : ℕ → Bool) → T (below n f) → (k : ℕ) → k < n → T (f k)
unfolding below
T_below zero f h k lt = absurd (omega arith)
T_below (suc n) f h k lt =
    let both = T_and (f n) (below n f) h in
    below_or_last (λ k. T (f k)) n (T_below n f both.1) both.0 k lt

pub below_T : (n : ℕ) (f : ℕ → Bool) → ((k : ℕ) → k < n → T (f k)) → T (below n f)
unfolding below
below_T zero f h = tt
below_T (suc n) f h = and_T (f n) (below n f) (h n (omega arith)) (below_T n f (λ k lt. h k (omega arith)))

-- tests that are the same at each number below a bound are the same of all of them
pub below_same : (n : ℕ) (f g : ℕ → Bool) → ((k : ℕ) → k < n → f k ≡ g k) → below n f ≡ below n g
unfolding below
below_same zero f g h = refl
below_same (suc n) f g h =
    ap₂ (λ x y. x && y) (h n (omega arith)) (below_same n f g (λ k lt. h k (omega arith)))

pub T_some : (n : ℕ) (f : ℕ → Bool) → T (some_below n f) → (k : ℕ) × (k < n) × T (f k)
unfolding some_below
T_some zero f h = absurd h
T_some (suc n) f h = go (T_or (f n) (some_below n f) h) (T_some n f)
  where
    go : T (f n) ⊎ T (some_below n f) → (T (some_below n f) → (k : ℕ) × (k < n) × T (f k)) →
        (k : ℕ) × (k < suc n) × T (f k)
    go (inl x) rec = (n, omega arith, x)
    go (inr x) rec = let r = rec x in (r.0, omega arith, r.2)

pub some_T : (n : ℕ) (f : ℕ → Bool) (k : ℕ) → k < n → T (f k) → T (some_below n f)
unfolding some_below
some_T zero f k lt h = absurd (omega arith)
some_T (suc n) f k lt h =
    or_T (f n) (some_below n f)
    (below_or_last (λ k. T (f k) → T (f n) ⊎ T (some_below n f)) n (λ k lt h. inr (some_T n f k lt h)) inl k lt h)

-- what a look-up found, and what was made of it
pub mapped_some : {X Y : Type 0} (f : X → Y) (o : Option X) (y : Y) → mapped f o ≡ Some y →
    (x : X) × (o ≡ Some x) × (f x ≡ y)
mapped_some f None y e = absurd (none_some e)
mapped_some f (Some x) y e = (x, refl, some_same e)

pub T_present : {X : Type 0} (o : Option X) → T (present o) → (x : X) × (o ≡ Some x)
T_present None h = absurd h
T_present (Some x) h = (x, refl)

pub present_T : {X : Type 0} (o : Option X) (x : X) → o ≡ Some x → T (present o)
present_T None x e = none_some e
present_T (Some y) x e = tt

pub T_given : {X : Type 0} (f : X → Bool) (o : Option X) → T (given false f o) → (x : X) × (o ≡ Some x) × T (f x)
T_given f None h = absurd h
T_given f (Some x) h = (x, refl, h)

pub given_T : {X : Type 0} (f : X → Bool) (o : Option X) (x : X) → o ≡ Some x → T (f x) → T (given false f o)
given_T f o x e h = subst (λ m. T (given false f m)) (sym e) h

-- a refusal that depends on a test
pub T_unless : {X : Type 0} (b : Bool) (x : X) → unless b x ≡ None → T b
T_unless true x e = tt
T_unless false x e = none_some (sym e)

pub unless_T : {X : Type 0} (b : Bool) (x : X) → T b → unless b x ≡ None
unless_T true x h = refl
unless_T false x h = absurd h

pub unless_some : {X : Type 0} (b : Bool) (x y : X) → unless b x ≡ Some y → x ≡ y
unless_some true x y e = absurd (none_some e)
unless_some false x y e = some_same e

pub or_none : {X : Type 0} (a b : Option X) → or_else a b ≡ None → (a ≡ None) × (b ≡ None)
or_none None b e = (refl, e)
or_none (Some x) b e = absurd (none_some (sym e))

pub none_or : {X : Type 0} (a b : Option X) → a ≡ None → or_else a b ≡ b
none_or a b e = ap (λ m. or_else m b) e

pub or_some : {X : Type 0} (a b : Option X) (x : X) → or_else a b ≡ Some x → (a ≡ Some x) ⊎ ((a ≡ None) × (b ≡ Some x))
or_some None b x e = inr (refl, e)
or_some (Some y) b x e = inl e

pub some_or : {X : Type 0} (a b : Option X) (x : X) → a ≡ Some x → or_else a b ≡ Some x
some_or a b x e = ap (λ m. or_else m b) e

-- a member of the set that goes with what is found
pub in_found : {X : Type 0} (g : X → ℕ → Bool) (o : Option X) (x : ℕ) → T (given (λ y. false) g o x) →
    (i : X) × (o ≡ Some i) × T (g i x)
in_found g None x h = absurd h
in_found g (Some i) x h = (i, refl, h)
