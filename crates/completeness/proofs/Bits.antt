-- Sets as numbers: what a program does with the numbers it does with the sets.
use Rattle.std.proofs.Common.{◌≡◌, ℕ, ◌*◌, ◌/◌, ◌%◌, ◌^◌, ◌<◌, Bool, true, false, ◌||◌, eqb, sym, ap, ◌∙◌, subst, arith}
use lib.Bits.{bit_and}
use Rattle.std.proofs.lemmas.Nat.{one_shl}
use Rattle.syntax.specs.Grammar.{terminals}
use Rattle.table.specs.Lawful.{narrow}
use Rattle.table.specs.Hints.{Set, ◌∈◌}
use Rattle.layout.specs.Choices.{implies, below}
use Rattle.layout.specs.Checking.{subset, same_test}
use Rattle.layout.specs.Records.{sixteen, member}
use Rattle.hinted.specs.Sets.{Holds}
use Rattle.wellformed.proofs.Says.{Says, itself, says_as, one_test, equal, all_below}
use Rattle.wellformed.proofs.Sets.{says_same, Bounded, says_members, says_subset}
use Rattle.wellformed.proofs.Bits as bits
use Rattle.wellformed.proofs.Bits.{Bit, Member, says_member, low_bit, says_within, one_number, no_bit, stands_one, says_in}

-- NUMBERS THAT STAND FOR SETS

-- 1 << s
pub holds_one : (s : ℕ) → s < narrow → Holds ((1 * 2 ^ s) % 2 ^ narrow) (eqb s)
holds_one s lt x = ap (λ m. member sixteen m x) (one_shl s narrow lt) ∙ stands_one sixteen s lt x

-- THE TESTS OF A PROGRAM

-- m % 2 == 1: the first member
pub odd_is : (m : ℕ) → eqb (m % 2) 1 ≡ member sixteen m 0
odd_is m =
    one_test (equal (m % 2) 1) (says_as (λ (lt, b). omega arith) (λ b. (omega arith, omega arith)) (says_member sixteen m 0))

-- (m >> x) % 2 == 1: the bit of a member, as it is shifted out
pub bit_is : (m : ℕ) (X : Set) → Holds m X → (x : ℕ) → x < narrow → eqb ((m / 2 ^ x) % 2) 1 ≡ X x
bit_is m X in-m x lt = bits.bit_is sixteen m x lt ∙ in-m x

module _ (x : ℕ) (X : Set) (fits : x < 2 ^ narrow) (few : Bounded terminals X) (in_x : Holds x X) where
  bit_in : (i : ℕ) → Bit x i → i ∈ X
  bit_in i b = (says_in sixteen x X in_x i).back (low_bit narrow x i fits b, b)

  -- x & y == x
  pub subset_is : (y : ℕ) (Y : Set) → Holds y Y → eqb (bit_and x y) x ≡ subset terminals X Y
  subset_is y Y in-y = one_test (says_within narrow x y fits) (says_as
      (λ h i b. ((says_in sixteen y Y in-y i).to (h i (bit_in i b))).1)
      (λ h i k. let (lt, b) = (says_in sixteen x X in_x i).to k in (says_in sixteen y Y in-y i).back (lt, h i b))
      (says_subset terminals X Y few))

  -- x == 0
  says_empty : Says (eqb x 0) ((i : ℕ) → i ∈ X → ⊥)
  says_empty = says_as
      (λ e i h. no_bit i (subst (λ z. Bit z i) e ((says_in sixteen x X in_x i).to h).1))
      (λ none. one_number narrow x 0 fits (omega arith) (λ i. (
        λ b. absurd (none i (bit_in i b)),
        λ b. absurd (no_bit i b),
      )))
      (equal x 0)

  -- a test that does not depend on the member
  pub all_or_none : (b : Bool) → b || eqb x 0 ≡ below terminals (λ i. implies (X i) b)
  all_or_none true =
      one_test (itself true) (says_as (λ h. tt) (λ h i k. h) (says_members terminals X few (λ i. itself true)))
  all_or_none false = one_test says_empty (says_members terminals X few (λ i. itself false))

  -- x == y
  pub same_is : (y : ℕ) (Y : Set) → y < 2 ^ narrow → Bounded terminals Y → Holds y Y →
      eqb x y ≡ below terminals (λ i. same_test (X i) (Y i))
  same_is y Y fits' few' in-y = one_test (equal x y) (says_as
      (λ same. one_number narrow x y fits fits' (λ i. (
        λ b. ((says_in sixteen y Y in-y i).to ((same i (few i (bit_in i b))).0 (bit_in i b))).1,
        λ b.
            let other = (says_in sixteen y Y in-y i).back (low_bit narrow y i fits' b, b) in
            ((says_in sixteen x X in_x i).to ((same i (few' i other)).1 other)).1,
      )))
      (λ e i lt. (
        λ h. (says_in sixteen y Y in-y i).back (subst (λ z. Member sixteen z i) e ((says_in sixteen x X in_x i).to h)),
        λ h. (says_in sixteen x X in_x i).back (subst (λ z. Member sixteen z i) (sym e) ((says_in sixteen y Y in-y i).to h)),
      ))
      (all_below terminals (λ i. says_same (itself (X i)) (itself (Y i)))))
