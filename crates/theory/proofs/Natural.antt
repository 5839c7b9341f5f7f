-- The machine's moves commute with every homomorphism of algebras.
use Rattle.std.proofs.Common.{◌≡◌, ℕ, zero, suc, Bool, true, false, cond, List, [], ◌∷◌, map, reverse, length, take, drop, Some, None, Ok, Err, Option, Result, sym, refl, ap, ◌∙◌, ap₂}
use mathlib.Core.List.{reverse_aux}
use Rattle.std.proofs.lemmas.List.{take-map, drop-map}
use Rattle.syntax.specs.declared.Token.{Token}
use Rattle.syntax.specs.Grammar.{Rule}
use Rattle.syntax.specs.Trees.{Tree}
use Rattle.syntax.specs.Values.{Algebra, read, reads}
use Rattle.table.specs.declared.Action.{Action}
use Rattle.table.specs.declared.Action.TheVariants.{Shift, Reduce, Accept, Reject}
use Rattle.table.specs.Automaton.{Automaton}
use Rattle.theory.specs.Machine.{Core, core, Move, on, accepts, rejects, slips, starves, current, seen, found}
use Rattle.theory.specs.Machine.{carry_start, landing_of, shift_to, land, reduce_by, perform, move, and_then, moves}
use Rattle.theory.specs.Maps.{forest, Homomorphism, core_map, move_map}
use Rattle.theory.specs.Theorems.{Natural, ReadingMaps}
use Rattle.table.specs.declared.Slip.{Slip}
use Rattle.table.specs.declared.Slip.TheVariants.{AtEnd}

map_reverse_aux : {V W : Type 0} (h : V → W) (vs ws : List V) →
    map h (reverse_aux vs ws) ≡ reverse_aux (map h vs) (map h ws)
map_reverse_aux h [] ws = refl
map_reverse_aux h (v ∷ vs) ws = map_reverse_aux h vs (v ∷ ws)

module _ {V W : Type 0} (M : Automaton) (R : Algebra V) (S : Algebra W) (h : V → W) (H : Homomorphism R S h) where
  node_natural : (p k : ℕ) (vs : List V) →
      S.node_rule p (reverse (take k (map h vs))) ≡ h (R.node_rule p (reverse (take k vs)))
  node_natural p k vs =
      ap (λ ws. S.node_rule p (reverse ws)) (take-map h k vs)
      ∙ ap (S.node_rule p) (sym (map_reverse_aux h (take k vs) []))
      ∙ sym (H.on_node p (reverse (take k vs)))

  land_natural : (p k : ℕ) (c : Core V) (l : Result ℕ Slip) → land S p k (core_map h c) l ≡ move_map h (land R p k c l)
  land_natural p k c (Err n) = refl
  land_natural p k c (Ok t) =
      ap₂ (λ (w : W) (ws : List W). on (core (t ∷ drop k c.cells) (w ∷ ws) c.rest))
      (node_natural p k c.values) (drop-map h k c.values)

  reduce_natural : (p : ℕ) (o : Option Rule) (c : Core V) →
      reduce_by S M p o (core_map h c) ≡ move_map h (reduce_by R M p o c)
  reduce_natural p None c = refl
  reduce_natural p (Some r) c = land_natural p (length r.right) c (landing_of M r c.cells)

  shift_natural : (t : ℕ) (ss : List ℕ) (vs : List V) (w : List Token) →
      shift_to S t ss (map h vs) w ≡ move_map h (shift_to R t ss vs w)
  shift_natural t ss vs [] = refl
  shift_natural t ss vs (k ∷ w) = ap (λ v. on (core (t ∷ ss) (v ∷ map h vs) w)) (sym (H.on_leaf k))

  accept_natural : (b : Bool) → cond b accepts (slips AtEnd) ≡ move_map h (cond b accepts (slips AtEnd))
  accept_natural true = refl
  accept_natural false = refl

  perform_natural : (c : Core V) (o : Option Action) → perform S M (core_map h c) o ≡ move_map h (perform R M c o)
  perform_natural c None = refl
  perform_natural c (Some (Shift t)) = shift_natural t c.cells c.values c.rest
  perform_natural c (Some (Reduce p)) = reduce_natural p (M.grammar p) c
  perform_natural c (Some Accept) = accept_natural (carry_start M c.cells)
  perform_natural c (Some Reject) = refl

  pub move_natural : (ended : Bool) (c : Core V) → move S M ended (core_map h c) ≡ move_map h (move R M ended c)
  move_natural ended c = perform_natural c (found M (current c.cells) (seen ended c.rest))

  then_natural : (m : Move V) (f : Core V → Move V) (g : Core W → Move W) →
      ((c : Core V) → g (core_map h c) ≡ move_map h (f c)) → and_then (move_map h m) g ≡ move_map h (and_then m f)
  then_natural (on c) f g e = e c
  then_natural accepts f g e = refl
  then_natural rejects f g e = refl
  then_natural (slips k) f g e = refl
  then_natural starves f g e = refl

  moves_natural : (ended : Bool) (n : ℕ) (c : Core V) →
      moves S M ended n (core_map h c) ≡ move_map h (moves R M ended n c)
  moves_natural ended zero c = refl
  moves_natural ended (suc n) c =
      ap (λ m. and_then m (λ d. moves S M ended n d)) (move_natural ended c)
      ∙ then_natural (move R M ended c) (λ d. moves R M ended n d) (λ d. moves S M ended n d)
      (λ d. moves_natural ended n d)

pub natural : (V W : Type 0) → Natural V W
natural V W M R S h H = moves_natural M R S h H

reads_forest : {V : Type 0} (R : Algebra V) (ts : List Tree) → reads R (forest ts) ≡ map (read R) ts
reads_forest R [] = refl
reads_forest {V} R (t ∷ ts) = ap {B = List V} (λ vs. read R t ∷ vs) (reads_forest R ts)

pub reading_maps : (V : Type 0) → ReadingMaps V
reading_maps V R = record { on_leaf = λ t. refl; on_node = λ p ts. ap (R.node_rule p) (reads_forest R ts) }
