-- Machines over different values: what takes one to another.
use Rattle.std.specs.Prelude.{◌≡◌, ℕ, List, [], ◌∷◌, map}
use Rattle.syntax.specs.declared.Token.{Token}
use Rattle.syntax.specs.Trees.{Tree, leaf, node, Forest, no_tree, tree_then}
use Rattle.syntax.specs.Values.{Algebra}
use Rattle.theory.specs.Machine.{Core, core, Move, on, accepts, rejects, slips, starves}

-- a list of trees as a forest
abbrev pub forest : List Tree → Forest
forest [] = no_tree
forest (t ∷ ts) = tree_then t (forest ts)

-- reads each tree as itself
abbrev pub tree_algebra : Algebra Tree
tree_algebra = record { leaf_rule = leaf; node_rule = λ p ts. node p (forest ts) }

-- h takes what R reads to what S reads
pub record Homomorphism {V W : Type 0} (R : Algebra V) (S : Algebra W) (h : V → W) : Type 0 where
  pub on_leaf : (t : Token) → h (R.leaf_rule t) ≡ S.leaf_rule t
  pub on_node : (p : ℕ) (vs : List V) → h (R.node_rule p vs) ≡ S.node_rule p (map h vs)

-- a core with its values mapped
abbrev pub core_map : {V W : Type 0} → (V → W) → Core V → Core W
core_map h c = core c.cells (map h c.values) c.rest

-- a move with its values mapped
abbrev pub move_map : {V W : Type 0} → (V → W) → Move V → Move W
move_map h (on c) = on (core_map h c)
move_map h accepts = accepts
move_map h rejects = rejects
move_map h (slips k) = slips k
move_map h starves = starves
