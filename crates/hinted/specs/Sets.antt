-- Sets as 64-bit numbers, and the ranges by which hints fit into them.
use Rattle.std.specs.Prelude.{◌≡◌, ℕ, ◌<◌, ◌≤◌, length, Some, None, Option}
use Rattle.syntax.specs.Grammar.{terminals}
use Rattle.table.specs.Hints.{Set, ◌∈◌, Hints, deepest}
use Rattle.layout.specs.Records.{sixteen, member}

-- bit x of m is 1 exactly for the members x
abbrev pub Holds : ℕ → Set → Type 0
Holds m X = (x : ℕ) → member sixteen m x ≡ X x

-- the same of a number and a set, or neither is there
abbrev pub HoldsIfAny : Option ℕ → Option Set → Type 0
HoldsIfAny None None = Unit {0}
HoldsIfAny None (Some X) = ⊥
HoldsIfAny (Some m) None = ⊥
HoldsIfAny (Some m) (Some X) = Holds m X

-- terminals are below 32, and a past goes back 8 at most
pub record InRange (H : Hints) : Type 0 where
  pub look_aheads_fit : (s p d a : ℕ) → a ∈ H.look_aheads s p d → a < terminals
  pub firsts_fit : (n a : ℕ) → a ∈ H.firsts n → a < terminals
  pub symbols_few : (s : ℕ) → length (H.past_symbols s) ≤ deepest
  pub sets_few : (s : ℕ) → length (H.past_sets s) ≤ deepest
