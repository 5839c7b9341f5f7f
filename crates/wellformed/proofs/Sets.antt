-- What the tests of sets say.
use Rattle.std.proofs.Common.{ℕ, ◌<◌, Bool, true, false, ◌↔◌}
use Rattle.table.specs.Hints.{Set, ◌∈◌, ◌⊆◌}
use Rattle.layout.specs.Choices.{implies, below}
use Rattle.layout.specs.Checking.{subset, same_test}
use Rattle.wellformed.proofs.Tests.{T_implies, implies_T, T_below, below_T}
use Rattle.wellformed.proofs.Says.{Says, itself}

-- one holds exactly when the other does
pub says_same : {x y : Bool} {P Q : Type 0} → Says x P → Says y Q → Says (same_test x y) (P ↔ Q)
says_same {x = true} p q = record {
  to = λ h. (λ k. q.to h, λ k. p.to tt);
  back = λ h. q.back (h.0 (p.to tt));
}
says_same {x = false} {y = true} p q = record { to = λ h. absurd h; back = λ h. p.back (h.1 (q.to tt)) }
says_same {x = false} {y = false} p q = record {
  to = λ h. (λ k. absurd (p.back k), λ k. absurd (q.back k));
  back = λ h. tt;
}

-- no member from n on
abbrev pub Bounded : ℕ → Set → Type 0
Bounded n X = (x : ℕ) → x ∈ X → x < n

pub says_members : (n : ℕ) (X : Set) {f : ℕ → Bool} {Q : ℕ → Type 0} → Bounded n X → ((x : ℕ) → Says (f x) (Q x)) →
    Says (below n (λ x. implies (X x) (f x))) ((x : ℕ) → x ∈ X → Q x)
says_members n X {f} few s = record {
  to = λ h x k. (s x).to (T_implies (X x) (f x) (T_below n (λ x. implies (X x) (f x)) h x (few x k)) k);
  back = λ h. below_T n (λ x. implies (X x) (f x)) (λ x lt. implies_T (X x) (f x) (λ k. (s x).back (h x k)));
}

pub says_subset : (n : ℕ) (X Y : Set) → Bounded n X → Says (subset n X Y) (X ⊆ Y)
says_subset n X Y few = says_members n X few (λ x. itself (Y x))
