-- Options, tests over numbers below a bound, and the least number at which something is found.
use Rattle.std.specs.Prelude.{ℕ, zero, suc, Bool, true, false, cond, ◌&&◌, ◌||◌, List, [], ◌∷◌, Some, None, Option, nat_lt}

abbrev pub or_else : {X : Type 0} → Option X → Option X → Option X
or_else None y = y
or_else (Some x) y = Some x

abbrev pub mapped : {X Y : Type 0} → (X → Y) → Option X → Option Y
mapped f None = None
mapped f (Some x) = Some (f x)

-- f of what is there, else y
abbrev pub given : {X Y : Type 0} → Y → (X → Y) → Option X → Y
given y f None = y
given y f (Some x) = f x

abbrev pub present : {X : Type 0} → Option X → Bool
present None = false
present (Some x) = true

-- x, unless the test passes
abbrev pub unless : {X : Type 0} → Bool → X → Option X
unless true x = None
unless false x = Some x

abbrev pub implies : Bool → Bool → Bool
implies true y = y
implies false y = true

-- what f gives at the least number below n where it gives anything
unfoldable pub first : {X : Type 0} → (ℕ → Option X) → ℕ → Option X
first f zero = None
first f (suc n) = or_else (first f n) (f n)

-- the least number below n that passes the test, else n
unfoldable pub least : (ℕ → Bool) → ℕ → ℕ
least f zero = zero
least f (suc n) = cond (nat_lt (least f n) n) (least f n) (cond (f n) n (suc n))

-- every number below n passes the test
unfoldable pub below : ℕ → (ℕ → Bool) → Bool
below zero f = true
below (suc n) f = f n && below n f

-- some number below n passes it
unfoldable pub some_below : ℕ → (ℕ → Bool) → Bool
some_below zero f = false
some_below (suc n) f = f n || some_below n f

unfoldable pub every : {X : Type 0} → (X → Bool) → List X → Bool
every f [] = true
every f (x ∷ xs) = f x && every f xs

-- f 0 to f (n - 1)
unfoldable pub gather : {X : Type 0} → ℕ → (ℕ → X) → List X
gather zero f = []
gather (suc n) f = f 0 ∷ gather n (λ k. f (suc k))

abbrev pub before : {X : Type 0} → Option X → List X → List X
before None xs = []
before (Some x) xs = x ∷ xs

-- f 0, f 1 and so on, n at most, up to the first that is absent
unfoldable pub run : {X : Type 0} → ℕ → (ℕ → Option X) → List X
run zero f = []
run (suc n) f = before (f 0) (run n (λ k. f (suc k)))
