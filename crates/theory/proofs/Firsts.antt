-- What comes next where a tree or a forest begins is among the first terminals of its symbols.
use Rattle.std.proofs.Common.{◌≡◌, ℕ, Bool, true, false, ◌&&◌, ◌||◌, T, ◌⊎◌, List, [], ◌∷◌, ◌++◌, Some, refl, ap, inl, inr}
use lib.Dec.{eqb_refl}
use Rattle.syntax.specs.declared.Token.{Token}
use Rattle.syntax.specs.declared.Symbol.{Symbol}
use Rattle.syntax.specs.declared.Symbol.TheVariants.{Nonterminal}
use Rattle.syntax.specs.Grammar.{Rule}
use Rattle.syntax.specs.Trees.{Tree, leaf, node, Forest, no_tree, tree_then, Of, OfAll, text, texts}
use Rattle.table.specs.Automaton.{Automaton}
use Rattle.table.specs.Hints.{Set, ◌∈◌, Hints}
use Rattle.table.specs.Completeness.{Complete, nullable_symbol, nullable_all, first_symbol, first_of, wanted}

-- the terminal that comes next, before END
abbrev pub next : List Token → ℕ
next [] = 0
next (k ∷ w) = k.kind

T_both : (x y : Bool) → T x → T y → T (x && y)
T_both true y h k = k
T_both false y h k = h

T_left : (x y : Bool) → T x → T (x || y)
T_left true y h = tt
T_left false y h = absurd h

T_right : (x y : Bool) → T y → T (x || y)
T_right true y h = tt
T_right false y h = h

module _ (M : Automaton) (H : Hints) (C : Complete M H) where
  -- a text is empty and X nullable, or it begins with a first terminal of X
  abbrev Begun : Bool → Set → List Token → Type 0
  Begun nullable firsts w =
      ((w ≡ []) × T nullable) ⊎ ((k : Token) × (v : List Token) × (w ≡ k ∷ v) × (k.kind ∈ firsts))

  abbrev BegunBy : Symbol → List Token → Type 0
  BegunBy X = Begun (nullable_symbol H X) (first_symbol H X)

  abbrev BegunByAll : List Symbol → List Token → Type 0
  BegunByAll α = Begun (nullable_all H α) (first_of H α)

  begun_then : (X : Symbol) (β : List Symbol) (w v : List Token) → BegunBy X w → BegunByAll β v →
      BegunByAll (X ∷ β) (w ++ v)
  begun_then X β w v (inl (e, n)) (inl (f, m)) =
      inl (rw e f, T_both (nullable_symbol H X) (nullable_all H β) n m)
  begun_then X β w v (inl (e, n)) (inr (k, u, f, m)) =
      let x = T_both (nullable_symbol H X) (first_of H β k.kind) n m in
      inr (k, u, rw e f, T_right (first_symbol H X k.kind) (nullable_symbol H X && first_of H β k.kind) x)
  begun_then X β w v (inr (k, u, e, n)) b =
      let x = T_left (first_symbol H X k.kind) (nullable_symbol H X && first_of H β k.kind) n in
      inr (k, u ++ v, ap (λ z. z ++ v) e, x)

  begun_node : (p : ℕ) (r : Rule) → M.grammar p ≡ Some r → (w : List Token) → BegunByAll r.right w →
      BegunBy (Nonterminal r.left) w
  begun_node p r e w (inl (f, n)) = inl (f, (C.nullable_solved r.left).1 (p, r, e, refl, n))
  begun_node p r e w (inr (k, u, f, n)) = inr (k, u, f, (C.first_solved r.left k.kind).1 (p, r, e, refl, n))

  mutual
    tree_begun : (t : Tree) (X : Symbol) → Of M.grammar X t → BegunBy X (text t)
    tree_begun (leaf k) X o = rw o (inr (k, [], refl, eqb_refl k.kind))
    tree_begun (node p ts) X (r, e, is, all) = rw is (begun_node p r e (texts ts) (forest_begun ts r.right all))

    forest_begun : (ts : Forest) (α : List Symbol) → OfAll M.grammar α ts → BegunByAll α (texts ts)
    forest_begun no_tree α o = rw o (inl (refl, tt))
    forest_begun (tree_then t ts) α (X, β, is, o, all) =
        rw is (begun_then X β (text t) (texts ts) (tree_begun t X o) (forest_begun ts β all))

  begun_wanted : (α : List Symbol) (w v : List Token) (after : Set) → next v ∈ after → BegunByAll α w →
      next (w ++ v) ∈ wanted H α after
  begun_wanted α w v after i (inl (e, n)) =
      let x = T_both (nullable_all H α) (after (next v)) n i in
      rw e (T_right (first_of H α (next v)) (nullable_all H α && after (next v)) x)
  begun_wanted α w v after i (inr (k, u, e, n)) =
      rw e (T_left (first_of H α k.kind) (nullable_all H α && after k.kind) n)

  -- what comes next at a forest's start is wanted of its symbols before what may come at its end
  pub forest_wanted : (ts : Forest) (α : List Symbol) → OfAll M.grammar α ts → (v : List Token) (after : Set) →
      next v ∈ after → next (texts ts ++ v) ∈ wanted H α after
  forest_wanted ts α o v after i = begun_wanted α (texts ts) v after i (forest_begun ts α o)
