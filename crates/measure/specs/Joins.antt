-- What a row of measures comes to, and how a tree is measured.
use Rattle.std.specs.Prelude.{◌≡◌, List, [], ◌∷◌, map}
use Rattle.syntax.specs.declared.Token.{Token}
use Rattle.syntax.specs.Trees.{Tree, text}
use Rattle.syntax.specs.Values.{Algebra, read}
use Rattle.measure.specs.declared.Measure as measures

module _ {M : Type 0} (m : measures.Ghosts M) where
  -- the measures of a row, joined from the first to the last
  abbrev pub joined : List M → M
  joined [] = m.unit
  joined (x ∷ xs) = m.join x (joined xs)

  -- a leaf is measured by its token, a node is the join of its children
  abbrev pub joining : Algebra M
  joining = record { leaf_rule = m.of; node_rule = λ p xs. joined xs }

  -- the join over the tokens of a text
  abbrev pub over_leaves : List Token → M
  over_leaves ts = joined (map m.of ts)

  -- a tree's total is the join over its leaves, whatever the bracketing
  abbrev pub Bracketing : Type 0
  Bracketing = (t : Tree) → read joining t ≡ over_leaves (text t)
