-- Sets as numbers: their members are their bits, and what a program does with the numbers it does with the sets.
use Rattle.std.proofs.Common.{◌≡◌, ℕ, zero, suc, ◌+◌, ◌*◌, ◌/◌, ◌%◌, ◌^◌, ◌<◌, ◌≤◌, min, max, Bool, true, false, cond, ◌&&◌, ◌||◌, T, eqb, ◌⊎◌, ◌↔◌, sym, refl, ap, ◌∙◌, subst, ap₂, inl, inr, ⊎_elim, div-lt_iff_lt-mul, one-mul, pow-suc, arith, eqb→eq, pow_pos, shr-shr}
use native.Mathlib.Nat.{pow-le-pow_right}
use Rattle.std.proofs.lemmas.Nat.{pow_below}
use lib.Bits.{bit_and, bit_or, and_step, or_step, and_shr, or_shr, and_comm}
use Rattle.std.proofs.lemmas.Bool.{cases_lt, cases_eq, eq-eqb}
use Rattle.table.specs.Lawful.{narrow}
use Rattle.table.specs.Hints.{Set, ◌∈◌}
use Rattle.layout.specs.Choices.{below}
use Rattle.layout.specs.Checking.{subset, same_test}
use Rattle.layout.specs.Records.{Format, sixteen, member}
use Rattle.wellformed.proofs.Tests.{eq_T}
use Rattle.wellformed.proofs.Says.{Says, itself, says_as, one_test, both, either, less, equal, all_below}
use Rattle.wellformed.proofs.Sets.{says_same, Bounded, says_subset}

-- bit x of a set
abbrev pub Bit : ℕ → ℕ → Type 0
Bit m x = (m / 2 ^ x) % 2 ≡ 1

pub says_member : (f : Format) (m x : ℕ) → Says (member f m x) ((x < f.states) × Bit m x)
unfolding member
says_member f m x = both (less x f.states) (equal ((m / 2 ^ x) % 2) 1)

-- a number below 2 ^ n has no bit from n on
pub low_bit : (n m x : ℕ) → m < 2 ^ n → Bit m x → x < n
low_bit n m x h e =
    ⊎_elim
    (λ (q : x < n). q)
    (λ (q : n ≤ x).
    let p : 2 ^ n ≤ 2 ^ x = pow-le-pow_right {n = 2} (omega arith) q in
    let k : m < 1 * 2 ^ x = rw one-mul (omega arith) in
    let z : m / 2 ^ x < 1 = (div-lt_iff_lt-mul (pow_pos x)).1 k in
    absurd (omega arith))
    (cases_lt x n)

-- bit x of the half is bit suc x
pub half_bit : (m x : ℕ) → (m / 2 / 2 ^ x) % 2 ≡ (m / 2 ^ suc x) % 2
half_bit m x =
    let next : 1 + x ≡ suc x = omega arith in
    ap (λ y. y % 2) (shr-shr m 1 x) ∙ ap (λ k. (m / 2 ^ k) % 2) next

-- and one that is not 0 has a bit
some_bit : (n m : ℕ) → m < 2 ^ n → (m ≡ 0 → ⊥) → (x : ℕ) × (x < n) × Bit m x
some_bit zero m h nz = absurd (nz (omega arith))
some_bit (suc n) m h nz = go (some_bit n (m / 2)) (cases_eq (m % 2) 1)
  where
    go : (m / 2 < 2 ^ n → (m / 2 ≡ 0 → ⊥) → (x : ℕ) × (x < n) × Bit (m / 2) x) → (m % 2 ≡ 1) ⊎ (m % 2 ≡ 1 → ⊥) →
        (x : ℕ) × (x < suc n) × Bit m x
    go rec (inl e) = (0, omega arith, omega arith)
    go rec (inr e) =
        let h' : m < 2 ^ n * 2 = rw pow-suc at h in
        let (x, lt, b) = rec (omega arith) (λ z. nz (omega arith)) in
        (suc x, omega arith, sym (half_bit m x) ∙ b)

module _ (f : Format) where
  pub member_fits : (m x : ℕ) → T (member f m x) → x < f.states
  member_fits m x h = ((says_member f m x).to h).0

  pub member_low : (n m x : ℕ) → m < 2 ^ n → T (member f m x) → x < n
  member_low n m x lt h = low_bit n m x lt ((says_member f m x).to h).1

  pub some_member : (n m : ℕ) → n ≤ f.states → m < 2 ^ n → (m ≡ 0 → ⊥) → (x : ℕ) × T (member f m x)
  some_member n m le lt nz =
      let (x, low, b) = some_bit n m lt nz in (x, (says_member f m x).back (omega arith, b))

  -- bit 0 is that of odd numbers
  pub member_of_even : (m x : ℕ) → m % 2 ≡ 0 → T (member f m x) → 1 ≤ x
  member_of_even m zero even h = let bit = ((says_member f m 0).to h).1 in absurd (omega arith)
  member_of_even m (suc x) even h = omega arith

-- BITS OF TWO NUMBERS

and_digit : (x y i : ℕ) → (bit_and x y / 2 ^ i) % 2 ≡ min ((x / 2 ^ i) % 2) ((y / 2 ^ i) % 2)
and_digit x y i = ap (λ z. z % 2) (and_shr x y i) ∙ omega (arith, and_step (x / 2 ^ i) (y / 2 ^ i))

or_digit : (x y i : ℕ) → (bit_or x y / 2 ^ i) % 2 ≡ max ((x / 2 ^ i) % 2) ((y / 2 ^ i) % 2)
or_digit x y i = ap (λ z. z % 2) (or_shr x y i) ∙ omega (arith, or_step (x / 2 ^ i) (y / 2 ^ i))

-- one number has all bits of another
within_bits : (n x y : ℕ) → x < 2 ^ n → ((i : ℕ) → Bit x i → Bit y i) → bit_and x y ≡ x
within_bits zero x y h f = let z : x ≡ 0 = omega arith in subst (λ v. bit_and v y ≡ v) (sym z) refl
within_bits (suc n) x y h f =
    let h' : x < 2 ^ n * 2 = rw pow-suc at h in
    let rest = within_bits n (x / 2) (y / 2) (omega arith)
    (λ i b. half_bit y i ∙ f (suc i) (sym (half_bit x i) ∙ b))
    in
    let step = and_step x y in
    let low : x % 2 ≡ 1 → y % 2 ≡ 1 = λ e. let b = f 0 (omega arith) in omega arith in
    ⊎_elim
    (λ (e : x % 2 ≡ 1). let b = low e in omega arith)
    (λ (e : x % 2 ≡ 1 → ⊥). let even : x % 2 ≡ 0 = omega arith in omega arith)
    (cases_eq (x % 2) 1)

pub says_within : (n x y : ℕ) → x < 2 ^ n → Says (eqb (bit_and x y) x) ((i : ℕ) → Bit x i → Bit y i)
says_within n x y lt = says_as
    (λ e i b.
    let digit : (x / 2 ^ i) % 2 ≡ min ((x / 2 ^ i) % 2) ((y / 2 ^ i) % 2) =
    ap (λ z. (z / 2 ^ i) % 2) (sym e) ∙ and_digit x y i
    in
    omega arith)
    (within_bits n x y lt)
    (equal (bit_and x y) x)

-- numbers with the same bits are the same
pub one_number : (n x y : ℕ) → x < 2 ^ n → y < 2 ^ n → ((i : ℕ) → Bit x i ↔ Bit y i) → x ≡ y
one_number n x y few few' same =
    sym (within_bits n x y few (λ i. (same i).0)) ∙ and_comm x y ∙ within_bits n y x few' (λ i. (same i).1)

twice : (s : ℕ) → 2 ^ suc s ≡ 2 ^ s * 2
twice s = pow-suc 2 s

-- the bits of 2 ^ s
pub power_bit : (s x : ℕ) → Bit (2 ^ s) x ↔ (s ≡ x)
power_bit zero zero = (λ b. refl, λ e. omega arith)
power_bit zero (suc x) = (
  λ b. absurd (let lt = low_bit 1 1 (suc x) (omega arith) b in omega arith),
  λ e. absurd (omega arith),
)
power_bit (suc s) zero = (λ b. absurd (omega (arith, twice s)), λ e. absurd (omega arith))
power_bit (suc s) (suc x) =
    let half : 2 ^ suc s / 2 ≡ 2 ^ s = omega (arith, twice s) in
    let digit : (2 ^ s / 2 ^ x) % 2 ≡ (2 ^ suc s / 2 ^ suc x) % 2 =
    ap (λ m. (m / 2 ^ x) % 2) (sym half) ∙ half_bit (2 ^ suc s) x
    in
    (λ b. ap suc ((power_bit s x).0 (digit ∙ b)), λ e. sym digit ∙ (power_bit s x).1 (omega arith))

-- NUMBERS THAT STAND FOR SETS

-- number m stands for X
abbrev pub Stands : Format → ℕ → Set → Type 0
Stands f m X = (x : ℕ) → member f m x ≡ X x

-- 0 has no bit
pub no_bit : (x : ℕ) → Bit 0 x → ⊥
no_bit x b = let lt = low_bit 0 0 x (omega arith) b in omega arith

module _ (f : Format) where
  pub stands_none : Stands f 0 (λ x. false)
  stands_none x = one_test (says_member f 0 x) (says_as (λ h. absurd h) (λ (lt, b). no_bit x b) (itself false))

  pub stands_one : (s : ℕ) → s < f.states → Stands f (2 ^ s) (eqb s)
  stands_one s lt x =
      one_test (says_member f (2 ^ s) x) (says_as
      (λ e. (subst (λ k. k < f.states) e lt, (power_bit s x).1 e))
      (λ (few, b). (power_bit s x).0 b)
      (equal s x))

  abbrev pub Member : ℕ → ℕ → Type 0
  Member m x = (x < f.states) × Bit m x

  or_bit : (m k x : ℕ) → Member m x ⊎ Member k x → Member (bit_or m k) x
  or_bit m k x (inl (lt, b)) = (lt, omega (arith, or_digit m k x))
  or_bit m k x (inr (lt, b)) = (lt, omega (arith, or_digit m k x))

  bit_or_splits : (m k x : ℕ) → Member (bit_or m k) x → Member m x ⊎ Member k x
  bit_or_splits m k x (lt, b) =
      let digit = or_digit m k x in
      ⊎_elim
      (λ e. inl (lt, e))
      (λ (other : (m / 2 ^ x) % 2 ≡ 1 → ⊥). inr (lt, omega arith))
      (cases_eq ((m / 2 ^ x) % 2) 1)

  pub stands_either : (m k : ℕ) (X Y : Set) → Stands f m X → Stands f k Y → Stands f (bit_or m k) (λ x. X x || Y x)
  stands_either m k X Y p q x =
      let parts = either (says_member f m x) (says_member f k x) in
      one_test (says_member f (bit_or m k) x) (says_as (or_bit m k x) (bit_or_splits m k x) parts)
      ∙ ap₂ (λ a b. a || b) (p x) (q x)

  pub stands_if : (b : Bool) (m : ℕ) (X : Set) → Stands f m X → Stands f (cond b m 0) (λ x. b && X x)
  stands_if true m X p x = p x
  stands_if false m X p x = stands_none x

  -- THE TESTS OF A PROGRAM

  -- the bit of a member, as it is shifted out
  pub bit_is : (m x : ℕ) → x < f.states → eqb ((m / 2 ^ x) % 2) 1 ≡ member f m x
  bit_is m x lt = one_test (equal ((m / 2 ^ x) % 2) 1) (says_as (λ h. h.1) (λ b. (lt, b)) (says_member f m x))

  -- a member of what a number stands for
  pub says_in : (m : ℕ) (X : Set) → Stands f m X → (i : ℕ) → Says (X i) (Member m i)
  says_in m X stands i = subst (λ b. Says b (Member m i)) (stands i) (says_member f m i)

  module _ (n : ℕ) (room : n ≤ f.states) (x : ℕ) (X : Set) (few : x < 2 ^ n) (in_x : Stands f x X) where
    bit_in : (i : ℕ) → Bit x i → i ∈ X
    bit_in i b = (says_in x X in_x i).back (let lt = low_bit n x i few b in omega arith, b)

    set_bounded : Bounded n X
    set_bounded i h = low_bit n x i few ((says_in x X in_x i).to h).1

    -- x & y == x
    pub subset_is : (y : ℕ) (Y : Set) → Stands f y Y → eqb (bit_and x y) x ≡ subset n X Y
    subset_is y Y in-y = one_test (says_within n x y few) (says_as
        (λ h i b. ((says_in y Y in-y i).to (h i (bit_in i b))).1)
        (λ h i k. let (lt, b) = (says_in x X in_x i).to k in (says_in y Y in-y i).back (lt, h i b))
        (says_subset n X Y set_bounded))

    -- x == y
    pub same_is : (y : ℕ) (Y : Set) → y < 2 ^ n → Stands f y Y → eqb x y ≡ below n (λ i. same_test (X i) (Y i))
    same_is y Y few' in-y = one_test (equal x y) (says_as
        (λ same. one_number n x y few few' (λ i. (
          λ b. let lt = low_bit n x i few b in ((same i lt).0 (omega arith, b)).1,
          λ b. let lt = low_bit n y i few' b in ((same i lt).1 (omega arith, b)).1,
        )))
        (λ e i lt. subst (λ z. Member x i ↔ Member z i) e (λ h. h, λ h. h))
        (all_below n (λ i. says_same (says_in x X in_x i) (says_in y Y in-y i))))

    -- x == 1: the initial state alone
    pub alone_is : 1 ≤ n → eqb x 1 ≡ X 0 && subset n X (eqb 0)
    alone_is some = one_test (equal x 1) (says_as
        (λ (first, only). one_number n x 1 few (pow_below 0 n some) (λ i. (
          λ b. (power_bit 0 i).1 (eqb→eq 0 i (only i (bit_in i b))),
          λ b. subst (Bit x) ((power_bit 0 i).0 b) first.1,
        )))
        (λ e. (
          (omega arith, omega arith),
          λ i h. eq_T 0 i ((power_bit 0 i).0 (subst (λ z. Bit z i) e ((says_in x X in_x i).to h).1)),
        ))
        (both (says_in x X in_x 0) (says_subset n X (eqb 0) set_bounded)))

-- the inclusion of two sets of 64 bits
pub subset_bits : (x y : ℕ) → x < 2 ^ narrow →
    (eqb (bit_and x y) x ≡ true) ↔ T (subset narrow (member sixteen x) (member sixteen y))
subset_bits x y lt =
    let X : Set = member sixteen x in
    let Y : Set = member sixteen y in
    let is = subset_is sixteen narrow (omega arith) x X lt (λ i. refl) y Y (λ i. refl) in
    (λ e. subst T (sym e ∙ is) tt, λ h. eq-eqb _ _ (eqb→eq _ _ (subst T (sym is) h)))
