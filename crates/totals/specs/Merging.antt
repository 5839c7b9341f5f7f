-- What takes the place of a node's children.
use Rattle.std.specs.Prelude.{ℕ, ◌-◌, List, take, drop, slice_set}
use Rattle.measure.specs.declared.Measure as measures
use Rattle.measure.specs.Joins.{joined}

-- the join of the places from a to e goes into the place a
abbrev pub merged : {M : Type 0} → measures.Ghosts M → List M → ℕ → ℕ → List M
merged m ps a e = slice_set ps a (joined m (take (e - a) (drop a ps)))
