-- Moves in a row.
use Rattle.std.proofs.Common.{◌≡◌, ℕ, zero, suc, ◌+◌, ◌-◌, ◌≤◌, Bool, ◌⊎◌, List, length, sym, refl, ap, ◌∙◌, subst, inl, inr, suc-add, zero-add, length-drop}
use Rattle.syntax.specs.declared.Token.{Token}
use Rattle.syntax.specs.Values.{Algebra}
use Rattle.table.specs.Automaton.{Automaton}
use Rattle.theory.specs.Machine.{Core, Move, on, accepts, rejects, slips, starves, fresh, move, moves, and_then, Leads}
use Rattle.theory.proofs.View.{Shifted, Reduced, same_core, first_on, view_on}

module _ {V : Type 0} where
  and_then_on : (m : Move V) → and_then m (λ c. on c) ≡ m
  and_then_on (on c) = refl
  and_then_on accepts = refl
  and_then_on rejects = refl
  and_then_on (slips k) = refl
  and_then_on starves = refl

  and_then_twice : (m : Move V) (h f g : Core V → Move V) → ((c : Core V) → h c ≡ and_then (f c) g) →
      and_then m h ≡ and_then (and_then m f) g
  and_then_twice (on c) h f g e = e c
  and_then_twice accepts h f g e = refl
  and_then_twice rejects h f g e = refl
  and_then_twice (slips k) h f g e = refl
  and_then_twice starves h f g e = refl

module _ {V : Type 0} (R : Algebra V) (M : Automaton) (ended : Bool) where
  moves_add : (m n : ℕ) (c : Core V) →
      moves R M ended (m + n) c ≡ and_then (moves R M ended m c) (λ d. moves R M ended n d)
  moves_add zero n c = rw zero-add refl
  moves_add (suc m) n c =
      rw suc-add
      (and_then_twice (move R M ended c) (λ d. moves R M ended (m + n) d) (λ d. moves R M ended m d)
      (λ d. moves R M ended n d) (λ d. moves_add m n d))

  -- one move more
  pub moves_more : (n : ℕ) (c d : Core V) (x : Move V) → moves R M ended n c ≡ on d → move R M ended d ≡ x →
      moves R M ended (n + 1) c ≡ x
  moves_more n c d x e f = moves_add n 1 c ∙ rw e (and_then_on (move R M ended d) ∙ f)

  -- the first of some moves
  pub first_move : (n : ℕ) (c e : Core V) → moves R M ended (suc n) c ≡ on e →
      (d : Core V) × (move R M ended c ≡ on d) × (moves R M ended n d ≡ on e)
  first_move n c e h = first_on (move R M ended c) (λ d. moves R M ended n d) e h

  -- the last of them
  pub last_move : (n : ℕ) (c e : Core V) → moves R M ended (suc n) c ≡ on e →
      (d : Core V) × (moves R M ended n c ≡ on d) × (move R M ended d ≡ on e)
  last_move zero c e h = let (d, f, g) = first_move zero c e h in (c, refl, f ∙ g)
  last_move (suc n) c e h =
      let (b, f, g) = first_move (suc n) c e h in
      let (d, i, j) = last_move n b e g in
      (d, ap (λ m. and_then m (λ x. moves R M ended n x)) f ∙ i, j)

  -- what holds at first and is kept by a move holds after all moves
  pub kept_by_moves : (Good : Core V → Type 0) → ((c d : Core V) → Good c → move R M ended c ≡ on d → Good d) →
      (n : ℕ) (c e : Core V) → Good c → moves R M ended n c ≡ on e → Good e
  kept_by_moves Good kept zero c e g h = subst Good (same_core c e h) g
  kept_by_moves Good kept (suc n) c e g h =
      let (d, f, i) = first_move n c e h in
      kept_by_moves Good kept n d e (kept c d g f) i

  -- there are as many values as cells
  abbrev Level : Core V → Type 0
  Level d = length d.values ≡ length d.cells

  move_level : (c d : Core V) → Level c → move R M ended c ≡ on d → Level d
  move_level c d e h = go (view_on R M ended c d h)
    where
      go : Shifted R M c d ⊎ Reduced R M c d → Level d
      go (inl s) = subst Level (sym s.now_is) (ap suc e)
      go (inr r) =
          let k = length r.rule.right in
          let below = length-drop k c.values ∙ ap (λ n. n - k) e ∙ sym (length-drop k c.cells) in
          subst Level (sym r.now_is) (ap suc below)

  pub moves_level : (n : ℕ) (w : List Token) (d : Core V) → moves R M ended n (fresh w) ≡ on d → Level d
  moves_level n w d e = kept_by_moves Level move_level n (fresh w) d refl e

module _ {V : Type 0} (R : Algebra V) (M : Automaton) (L : ℕ) (ended : Bool) where
  pub leads_moves : (n : ℕ) (c e : Core V) → Leads R M L ended n c e → moves R M ended n c ≡ on e
  leads_moves zero c e l = ap on l
  leads_moves (suc n) c e l = rw l.1 (leads_moves n l.0 e l.3)

  pub leads_add : (m n : ℕ) (c d e : Core V) → Leads R M L ended m c d → Leads R M L ended n d e →
      Leads R M L ended (m + n) c e
  leads_add zero n c d e l k = rw (zero-add, l) k
  leads_add (suc m) n c d e l k = rw suc-add (l.0, l.1, l.2, leads_add m n l.0 d e l.3 k)

  pub leads_more : (n : ℕ) (c d e : Core V) → Leads R M L ended n c d → move R M ended d ≡ on e →
      length e.cells ≤ L → Leads R M L ended (n + 1) c e
  leads_more n c d e l f h = leads_add n 1 c d e l (e, f, h, refl)
