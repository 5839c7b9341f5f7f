-- Where every tree is read, a run on a text of a tree is on the way to it, whatever was asked of it.
use Rattle.std.proofs.Common.{◌≡◌, ℕ, zero, suc, ◌+◌, ◌<◌, ◌≤◌, Bool, true, List, [], ◌∷◌, length, sym, refl, ap, ◌∙◌, subst, ap₂, suc-add, zero-add, arith}
use Rattle.syntax.specs.declared.Token.{Token}
use Rattle.syntax.specs.Trees.{Tree, leaf, node, Forest, no_tree, tree_then, TreeOf, size, reach}
use Rattle.syntax.specs.Values.{Algebra, read, reads}
use Rattle.table.specs.Automaton.{Automaton}
use Rattle.theory.specs.Machine.{Core, core, on, accepts, fresh, move, moves, Leads}
use Rattle.theory.specs.Maps.{forest, tree_algebra}
use Rattle.theory.specs.Theorems.{ReadsAll, StaysOnTheWay, OneTree}
use Rattle.theory.proofs.Clash.{clash}
use Rattle.theory.proofs.Moves.{first_move, leads_moves}
use Rattle.theory.proofs.View.{same_core}

module _ {V : Type 0} (R : Algebra V) (M : Automaton) (L : ℕ) (ended : Bool) where
  -- what k moves lead to lies before the place where a run stops
  before : (k n : ℕ) (c d e : Core V) → moves R M ended k c ≡ on d → Leads R M L ended n c e →
      ((x : Core V) → move R M ended e ≡ on x → ⊥) → (j : ℕ) × (n ≡ k + j) × Leads R M L ended j d e
  before zero n c d e f l stuck =
      (n, sym (zero-add n), subst (λ x. Leads R M L ended n x e) (same_core c d f) l)
  before (suc k) zero c d e f l stuck =
      let (x, g, h) = first_move R M ended k c d f in
      absurd (stuck x (subst (λ y. move R M ended y ≡ on x) l g))
  before (suc k) (suc n) c d e f (y, i, low, l) stuck =
      let (x, g, h) = first_move R M ended k c d f in
      let same = same_core y x (sym i ∙ g) in
      let (j, count, rest) = before k n y d e (ap (λ z. moves R M ended k z) same ∙ h) l stuck in
      (j, ap suc count ∙ sym (suc-add k j), rest)

module _ {V : Type 0} (R : Algebra V) (M : Automaton) (all : ReadsAll R M) (w : List Token) (t : Tree)
    (o : TreeOf M.grammar w t) where
  -- where the tree has been read
  abbrev end_of : Core V
  end_of = core ((all w t o).last ∷ []) (read R t ∷ []) []

  -- after k moves there are j left to the end
  abbrev Left : ℕ → Core V → Type 0
  Left k d = (j : ℕ) × (size t ≡ k + j) × Leads R M (reach t) true j d end_of

  way : (k : ℕ) (d : Core V) → moves R M true k (fresh w) ≡ on d → Left k d
  way k d e =
      let T = all w t o in
      let accepted = T.accepted in
      before R M (reach t) true k (size t) (fresh w) d end_of e T.leads (λ x g. clash (cc))

  more_left : (k : ℕ) (d : Core V) → Left k d → k < size t →
      (e : Core V) × (move R M true d ≡ on e) × (length e.cells ≤ reach t)
  more_left k d (zero, n, l) h = absurd (omega arith)
  more_left k d (suc j, n, l) h = (l.0, l.1, l.2)

  none_left : (k : ℕ) (d : Core V) → Left k d → k ≡ size t → move R M true d ≡ accepts
  none_left k d (zero, n, l) h = ap (move R M true) l ∙ (all w t o).accepted
  none_left k d (suc j, n, l) h = absurd (omega arith)

  -- a run that goes no further is at the end
  pub stops_there : (k : ℕ) (d : Core V) → moves R M true k (fresh w) ≡ on d →
      ((x : Core V) → move R M true d ≡ on x → ⊥) → (d ≡ end_of) × (move R M true d ≡ accepts)
  stops_there k d e stuck = go (way k d e)
    where
      go : Left k d → (d ≡ end_of) × (move R M true d ≡ accepts)
      go (zero, n, l) = (l, ap (move R M true) l ∙ (all w t o).accepted)
      go (suc j, n, l) = absurd (stuck l.0 l.1)

pub stays_on_the_way : (V : Type 0) → StaysOnTheWay V
stays_on_the_way V M R all w t o k d e =
    let left = way R M all w t o k d e in
    let count = left.1 in
    record {
      steps = omega arith;
      goes_on = more_left R M all w t o k d left;
      ends_well = none_left R M all w t o k d left;
    }

-- a tree is itself, read as a tree
mutual
  tree_same : (t : Tree) → read tree_algebra t ≡ t
  tree_same (leaf k) = refl
  tree_same (node p ts) = ap (node p) (forest_same ts)

  forest_same : (ts : Forest) → forest (reads tree_algebra ts) ≡ ts
  forest_same no_tree = refl
  forest_same (tree_then t ts) = ap₂ tree_then (tree_same t) (forest_same ts)

-- the run of one tree of a text stops where the run of the other does
pub one_tree : OneTree
one_tree M all w t u o o' =
    let T = all w t o in
    let accepted = T.accepted in
    let c = end_of tree_algebra M all w t o in
    let moved = leads_moves tree_algebra M (reach t) true (size t) (fresh w) c T.leads in
    let same = (stops_there tree_algebra M all w u o' (size t) c moved (λ x g. clash (cc))).0 in
    let values : read tree_algebra t ∷ [] ≡ read tree_algebra u ∷ [] = ap (λ (d : Core Tree). d.values) same in
    let heads : read tree_algebra t ≡ read tree_algebra u = cc in
    sym (tree_same t) ∙ heads ∙ tree_same u
