-- A number that a question answers, and the set that the hints have there.
use Rattle.std.proofs.Common.{◌≡◌, ℕ, Some, None, Option, refl}
use Rattle.table.specs.Hints.{Set}
use Rattle.hinted.specs.Sets.{Holds, HoldsIfAny}

-- where a number is answered, there is the set that it holds
pub holds_some : (m : ℕ) (o : Option Set) → HoldsIfAny (Some m) o → (X : Set) × (o ≡ Some X) × Holds m X
holds_some m None h = absurd h
holds_some m (Some X) h = (X, refl, h)

-- where none is, there is none
pub holds_none : (o : Option Set) → HoldsIfAny None o → o ≡ None
holds_none None h = refl
holds_none (Some X) h = absurd h
