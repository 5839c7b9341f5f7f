-- What a lawful table accepts is a tree of the whole text, whatever the values are.
use Rattle.std.proofs.Common.{◌≡◌, ℕ, ◌≤◌, Bool, true, false, List, [], ◌∷◌, ◌++◌, map, Some, Option, sym, refl, ap, ◌∙◌, subst, subst₂, arith}
use Rattle.std.proofs.lemmas.List.{append-nil}
use Rattle.syntax.specs.declared.Token.{Token}
use Rattle.syntax.specs.declared.Symbol.{Symbol}
use Rattle.syntax.specs.Grammar.{start, Kinded}
use Rattle.syntax.specs.Trees.{Tree, Of, TreeOf, text, size, reach}
use Rattle.syntax.specs.Values.{Algebra, read}
use Rattle.table.specs.Automaton.{Automaton}
use Rattle.table.specs.Lawful.{Lawful}
use Rattle.theory.specs.Machine.{Core, Move, on, accepts, rejects, slips, starves, fresh, current, seen, move, moves}
use Rattle.theory.specs.Maps.{tree_algebra, core_map, move_map}
use Rattle.theory.specs.Theorems.{Within, TreeAccepted, AcceptsOnlyTrees}
use Rattle.theory.proofs.Clash.{clash, some_some, none_some}
use Rattle.theory.proofs.Symbols.{one_start}
use Rattle.theory.proofs.Natural.{natural, reading_maps, move_natural}
use Rattle.theory.proofs.View.{same_core, view_accepts}
use Rattle.theory.proofs.Built.{Stacked, text_of, steps_of, Under, Built, built}

-- a mapped move went on, or accepts, only where the move itself does
module _ {V W : Type 0} (h : V → W) where
  unmap_on : (m : Move V) (c : Core W) → move_map h m ≡ on c → (d : Core V) × (m ≡ on d) × (c ≡ core_map h d)
  unmap_on (on d) c e = (d, refl, sym (same_core (core_map h d) c e))
  unmap_on accepts c e = absurd (clash (cc))
  unmap_on rejects c e = absurd (clash (cc))
  unmap_on (slips k) c e = absurd (clash (cc))
  unmap_on starves c e = absurd (clash (cc))

  unmap_accepts : (m : Move V) → move_map h m ≡ accepts → m ≡ accepts
  unmap_accepts (on d) e = absurd (clash (cc))
  unmap_accepts accepts e = refl
  unmap_accepts rejects e = absurd (clash (cc))
  unmap_accepts (slips k) e = absurd (clash (cc))
  unmap_accepts starves e = absurd (clash (cc))

kinded_rest : (u w : List Token) → Kinded (u ++ w) → Kinded w
kinded_rest [] w K = K
kinded_rest (t ∷ u) w K = kinded_rest u w K.1

-- END is seen only behind all tokens
at_end : (ended : Bool) (w : List Token) → Kinded w → seen ended w ≡ Some 0 → (w ≡ []) × (ended ≡ true)
at_end true [] K h = (refl, refl)
at_end false [] K h = absurd (none_some h)
at_end ended (t ∷ w) K h = let none = some_some h in let one = K.0.0 in absurd (omega arith)

-- a lone cell has a lone tree
lone : (M : Automaton) (s : ℕ) (vs : List Tree) → Stacked M (s ∷ []) vs →
    (t : Tree) × (vs ≡ t ∷ []) × ((X : Symbol) × (M.incoming s ≡ Some X) × Of M.grammar X t)
lone M s [] S = absurd S
lone M s (t ∷ []) S = (t, refl, S.0)
lone M s (t ∷ u ∷ vs) S = absurd S.1

-- the one tree that was built of w
record Derived (M : Automaton) (ended : Bool) (w : List Token) (n L : ℕ) (c : Core Tree) : Type 0 where
  tree : Tree
  only : c.values ≡ tree ∷ []
  of_text : TreeOf M.grammar w tree
  all_taken : c.rest ≡ []
  has_ended : ended ≡ true
  steps_are : size tree ≡ n
  cells_reach : reach tree ≤ L

derived : (states : ℕ) (M : Automaton) → Lawful states M → (ended : Bool) (w : List Token) (n L : ℕ) (c : Core Tree) →
    Kinded w → Built M w n L c → move tree_algebra M ended c ≡ accepts → Derived M ended w n L c
derived states M law ended w n L c K B h =
    let a = view_accepts tree_algebra M ended c h in
    let zero_seen = (law.accept_on_end (current c.cells) a.sight a.acts).1 in
    let to_come = kinded_rest (text_of c.values) c.rest (subst Kinded (sym B.text_is) K) in
    let (done, ended_is) = at_end ended c.rest to_come (a.sees ∙ ap {B = Option ℕ} Some zero_seen) in
    let (s, one, entry) = one_start M c.cells a.carried in
    let (t, only, (X, e, o)) = lone M s c.values (subst (λ ss. Stacked M ss c.values) one B.stacked) in
    let same : X ≡ start = some_some (sym e ∙ entry) in
    let whole : text t ++ [] ≡ w = subst₂ (λ vs r. text_of vs ++ r ≡ w) only done B.text_is in
    let count : steps_of (t ∷ []) ≡ n = subst (λ vs. steps_of vs ≡ n) only B.steps_are in
    let high : Under L (t ∷ []) = subst (Under L) only B.under in
    record {
      tree = t;
      only = only;
      of_text = (subst (λ Y. Of M.grammar Y t) same o, sym (append-nil (text t)) ∙ whole);
      all_taken = done;
      has_ended = ended_is;
      steps_are = omega arith;
      cells_reach = omega arith;
    }

-- as the machine over trees is, so is that over any values
module _ {V : Type 0} (M : Automaton) (R : Algebra V) (ended : Bool) (w : List Token) where
  same : (m : ℕ) → moves R M ended m (fresh w) ≡ move_map (read R) (moves tree_algebra M ended m (fresh w))
  same m = natural Tree V M tree_algebra R (read R) (reading_maps V R) ended m (fresh w)

  inside : (n L : ℕ) → Within R M ended w n L → Within tree_algebra M ended w n L
  inside n L fits m b le e = fits m (core_map (read R) b) le (same m ∙ ap (move_map (read R)) e)

  accepts_too : (c : Core V) (d : Core Tree) → c ≡ core_map (read R) d → move R M ended c ≡ accepts →
      move tree_algebra M ended d ≡ accepts
  accepts_too c d at a =
      let mapped = sym (move_natural M tree_algebra R (read R) (reading_maps V R) ended d) in
      unmap_accepts (read R) (move tree_algebra M ended d) (mapped ∙ ap (move R M ended) (sym at) ∙ a)

  tree_accepted : (n L : ℕ) (c : Core V) (d : Core Tree) → c ≡ core_map (read R) d → Derived M ended w n L d →
      TreeAccepted R M ended w n L c
  tree_accepted n L c d at D = record {
    tree = D.tree;
    of_text = D.of_text;
    value_is = ap (λ (b : Core V). b.values) at ∙ ap (map (read R)) D.only;
    all_taken = ap (λ (b : Core V). b.rest) at ∙ D.all_taken;
    has_ended = D.has_ended;
    steps_are = D.steps_are;
    cells_reach = D.cells_reach;
  }

pub accepts_only_trees : (V : Type 0) → AcceptsOnlyTrees V
accepts_only_trees V states M law R ended w n L c K fits h a =
    let trees = moves tree_algebra M ended n (fresh w) in
    let (d, e, at) = unmap_on (read R) trees c (sym (same M R ended w n) ∙ h) in
    let B = built states M law ended w L n d (inside M R ended w n L fits) e in
    let D = derived states M law ended w n L d K B (accepts_too M R ended w c d at a) in
    tree_accepted M R ended w n L c d at D
