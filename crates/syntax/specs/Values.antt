-- How trees are read as values.
use Rattle.std.specs.Prelude.{ℕ, List, [], ◌∷◌}
use Rattle.syntax.specs.declared.Token.{Token}
use Rattle.syntax.specs.Trees.{Tree, leaf, node, Forest, no_tree, tree_then}

-- the value of a leaf, and the value of a node with the values of its children
pub record Algebra (V : Type 0) : Type 0 where
  pub leaf_rule : Token → V
  pub node_rule : ℕ → List V → V

module _ {V : Type 0} (R : Algebra V) where
  abbrev mutual
    -- the value of a tree
    pub read : Tree → V
    read (leaf t) = R.leaf_rule t
    read (node p ts) = R.node_rule p (reads ts)

    pub reads : Forest → List V
    reads no_tree = []
    reads (tree_then t ts) = read t ∷ reads ts
