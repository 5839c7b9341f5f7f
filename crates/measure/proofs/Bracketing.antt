-- A tree's total is the join over its leaves, from the laws of a measure.
use Rattle.std.proofs.Common.{◌≡◌, List, [], ◌∷◌, ◌++◌, map, sym, refl, ap, ◌∙◌}
use Rattle.std.proofs.lemmas.List.{map-append}
use Rattle.syntax.specs.declared.Token.{Token}
use Rattle.syntax.specs.Trees.{leaf, node, Forest, no_tree, tree_then, text, texts}
use Rattle.syntax.specs.Values.{reads}
use Rattle.measure.specs.declared.Measure as measures
use Rattle.measure.specs.Joins.{joined, joining, over_leaves, Bracketing}

module _ {M : Type 0} (m : measures.Ghosts M)
    (associative : (x y z : M) → m.join (m.join x y) z ≡ m.join x (m.join y z))
    (unit_left : (x : M) → m.join m.unit x ≡ x) (unit_right : (x : M) → m.join x m.unit ≡ x) where
  joined_append : (xs ys : List M) → joined m (xs ++ ys) ≡ m.join (joined m xs) (joined m ys)
  joined_append [] ys = sym (unit_left (joined m ys))
  joined_append (x ∷ xs) ys = ap (m.join x) (joined_append xs ys) ∙ sym (associative x (joined m xs) (joined m ys))

  -- one more at the end of a row
  pub joined_push : (xs : List M) (x sum new : M) → sum ≡ joined m xs → new ≡ m.join sum x → new ≡ joined m (xs ++ (x ∷ []))
  joined_push xs x sum new so more =
      more ∙ (λ i. m.join (so i) (sym (unit_right x) i)) ∙ sym (joined_append xs (x ∷ []))

  -- and of a text
  pub leaves_push : (ts : List Token) (t : Token) (sum new : M) → sum ≡ over_leaves m ts → new ≡ m.join sum (m.of t) →
      new ≡ over_leaves m (ts ++ (t ∷ []))
  leaves_push ts t sum new so more =
      joined_push (map m.of ts) (m.of t) sum new so more ∙ ap (joined m) (sym (map-append m.of ts (t ∷ [])))

  mutual
    pub brackets : Bracketing m
    brackets (leaf t) = sym (unit_right (m.of t))
    brackets (node p ts) = brackets_all ts

    brackets_all : (ts : Forest) → joined m (reads (joining m) ts) ≡ over_leaves m (texts ts)
    brackets_all no_tree = refl
    brackets_all (tree_then t ts) =
        (λ i. m.join (brackets t i) (brackets_all ts i))
        ∙ sym (joined_append (map m.of (text t)) (map m.of (texts ts)))
        ∙ ap (joined m) (sym (map-append m.of (text t) (texts ts)))
