-- Trees of a grammar, their texts, and how large and how deep they are.
use Rattle.std.specs.Prelude.{◌≡◌, ℕ, ◌+◌, max, List, [], ◌∷◌, ◌++◌, Some}
use Rattle.syntax.specs.declared.Token.{Token}
use Rattle.syntax.specs.declared.Symbol.{Symbol}
use Rattle.syntax.specs.declared.Symbol.TheVariants.{Terminal, Nonterminal}
use Rattle.syntax.specs.Grammar.{Rule, Grammar, start}

mutual
  -- a token, or a production by number with a child for each right symbol
  pub data Tree : Type 0 where
    leaf : Token → Tree
    node : ℕ → Forest → Tree

  pub data Forest : Type 0 where
    no_tree : Forest
    tree_then : Tree → Forest → Forest

abbrev mutual
  -- t is a tree of the symbol X
  pub Of : Grammar → Symbol → Tree → Type 0
  Of G X (leaf t) = X ≡ Terminal t.kind
  Of G X (node p ts) = (r : Rule) × (G p ≡ Some r) × (X ≡ Nonterminal r.left) × OfAll G r.right ts

  -- the trees are, one for one and in order, of the symbols
  pub OfAll : Grammar → List Symbol → Forest → Type 0
  OfAll G α no_tree = α ≡ []
  OfAll G α (tree_then t ts) = (X : Symbol) × (β : List Symbol) × (α ≡ X ∷ β) × Of G X t × OfAll G β ts

abbrev mutual
  -- the leaves in order
  pub text : Tree → List Token
  text (leaf t) = t ∷ []
  text (node p ts) = texts ts

  pub texts : Forest → List Token
  texts no_tree = []
  texts (tree_then t ts) = text t ++ texts ts

-- t is a tree of the text w: one of the start, with exactly the tokens of w as its leaves
abbrev pub TreeOf : Grammar → List Token → Tree → Type 0
TreeOf G w t = Of G start t × (text t ≡ w)

-- the grammar makes the text w
abbrev pub Makes : Grammar → List Token → Type 0
Makes G w = (t : Tree) × TreeOf G w t

abbrev mutual
  -- how many leaves and nodes
  pub size : Tree → ℕ
  size (leaf t) = 1
  size (node p ts) = 1 + sizes ts

  pub sizes : Forest → ℕ
  sizes no_tree = 0
  sizes (tree_then t ts) = size t + sizes ts

abbrev mutual
  -- how many cells a reading of the tree uses at most: while child i is read, i cells hold the children before it
  pub reach : Tree → ℕ
  reach (leaf t) = 1
  reach (node p ts) = max 1 (reaches 0 ts)

  -- the same of children that follow i others
  pub reaches : ℕ → Forest → ℕ
  reaches i no_tree = 0
  reaches i (tree_then t ts) = max (i + reach t) (reaches (i + 1) ts)
