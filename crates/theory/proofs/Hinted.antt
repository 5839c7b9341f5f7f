-- Under a safe table the hints of every state on the stack are true of what lies below it.
use Rattle.std.proofs.Common.{◌≡◌, ℕ, zero, suc, ◌≤◌, Bool, true, ◌⊎◌, List, [], ◌∷◌, ◌++◌, reverse, length, take, drop, Some, None, Option, sym, refl, ap, ◌∙◌, subst, inl, inr, arith}
use lib.Dec.{eqb_refl}
use Rattle.std.proofs.lemmas.List.{reverse-append, reverse-reverse, length-reverse}
use Rattle.std.proofs.lemmas.Bool.{and_from}
use Rattle.syntax.specs.declared.Token.{Token}
use Rattle.syntax.specs.declared.Symbol.{Symbol}
use Rattle.syntax.specs.declared.Symbol.TheVariants.{Terminal, Nonterminal}
use Rattle.syntax.specs.Grammar.{Present}
use Rattle.syntax.specs.Values.{Algebra}
use Rattle.table.specs.Automaton.{Automaton, nth}
use Rattle.table.specs.Hints.{Set, ◌∈◌, Hints, incoming_list, trail, shadow}
use Rattle.table.specs.Safety.{Ends, Covers, Edge}
use Rattle.table.specs.Validity.{SafeUnderHints}
use Rattle.theory.specs.Machine.{Core, on, fresh, current, enters, carry, move, moves}
use Rattle.theory.proofs.Clash.{some_some, none_some}
use Rattle.theory.proofs.Symbols.{enters_own, carry_reverse}
use Rattle.theory.proofs.Moves.{kept_by_moves}
use Rattle.theory.proofs.View.{Shifted, Reduced, view_on}

-- the same, as far as both go
abbrev pub Agree : List Symbol → List Symbol → Type 0
Agree [] ys = Unit {0}
Agree (x ∷ xs) [] = Unit {0}
Agree (x ∷ xs) (y ∷ ys) = (x ≡ y) × Agree xs ys

-- each set, the nearest first, holds the state at its depth: the cells, the newest first, and state 0 below them
abbrev pub Hold : List Set → List ℕ → Type 0
Hold [] ss = Unit {0}
Hold (P ∷ ps) [] = 0 ∈ P × (ps ≡ [])
Hold (P ∷ ps) (s ∷ ss) = s ∈ P × Hold ps ss

-- the symbols that the cells carry, the newest first
abbrev pub symbols : Automaton → List ℕ → List Symbol
symbols M [] = []
symbols M (s ∷ ss) = incoming_list (M.incoming s) ++ symbols M ss

-- each cell's state is entered by a symbol, and its hints are true of the cells below it
abbrev pub Hinted : Automaton → Hints → List ℕ → Type 0
Hinted M H [] = Unit {0}
Hinted M H (s ∷ ss) =
    Present (M.incoming s)
    × Agree (reverse (H.past_symbols s)) (symbols M ss)
    × Hold (H.past_sets s) ss
    × Hinted M H ss

-- lists of symbols

agree_none : (xs : List Symbol) → Agree xs []
agree_none [] = tt
agree_none (x ∷ xs) = tt

agree_onto : (zs xs ys : List Symbol) → Agree xs ys → Agree (zs ++ xs) (zs ++ ys)
agree_onto [] xs ys A = A
agree_onto (z ∷ zs) xs ys A = (refl, agree_onto zs xs ys A)

agree_front : (xs zs ys : List Symbol) → Agree (xs ++ zs) ys → Agree xs ys
agree_front [] zs ys A = tt
agree_front (x ∷ xs) zs [] A = tt
agree_front (x ∷ xs) zs (y ∷ ys) A = (A.0, agree_front xs zs ys A.1)

-- what ends ys agrees with what ys does, from the near end on
agree_end : (xs ys us : List Symbol) → Ends xs ys → Agree (reverse ys) us → Agree (reverse xs) us
agree_end xs ys us (zs, e) A =
    let turned = ap reverse (sym e) ∙ reverse-append zs xs in
    agree_front (reverse xs) (reverse zs) us (subst (λ α. Agree α us) turned A)

reverse_incoming : (o : Option Symbol) → reverse (incoming_list o) ≡ incoming_list o
reverse_incoming None = refl
reverse_incoming (Some X) = refl

-- lists of sets

covers_none : (ps : List Set) → Covers ps [] → ps ≡ []
covers_none [] C = refl
covers_none (P ∷ ps) C = absurd C

covers_hold : (ps qs : List Set) (ss : List ℕ) → Covers ps qs → Hold qs ss → Hold ps ss
covers_hold [] qs ss C h = tt
covers_hold (P ∷ ps) [] ss C h = absurd C
covers_hold (P ∷ ps) (Q ∷ qs) [] C h = (C.0 0 h.0, covers_none ps (subst (Covers ps) h.1 C.1))
covers_hold (P ∷ ps) (Q ∷ qs) (s ∷ ss) C h = (C.0 s h.0, covers_hold ps qs ss C.1 h.1)

-- the set at a depth holds the state there, so that there is one
pub held_at : (ps : List Set) (k : ℕ) (P : Set) (ss : List ℕ) → Hold ps ss → nth ps k ≡ Some P →
    (k ≤ length ss) × (current (drop k ss) ∈ P)
held_at [] k P ss h e = absurd (none_some e)
held_at (Q ∷ ps) zero P [] h e = (omega arith, subst (λ (S : Set). 0 ∈ S) (some_some e) h.0)
held_at (Q ∷ ps) zero P (s ∷ ss) h e = (omega arith, subst (λ (S : Set). s ∈ S) (some_some e) h.0)
held_at (Q ∷ ps) (suc k) P [] h e = absurd (none_some (subst (λ (qs : List Set). nth qs k ≡ Some P) h.1 e))
held_at (Q ∷ ps) (suc k) P (s ∷ ss) h e = let (le, holds) = held_at ps k P ss h.1 e in (omega arith, holds)

module _ (M : Automaton) (H : Hints) where
  hinted_drop : (k : ℕ) (ss : List ℕ) → Hinted M H ss → Hinted M H (drop k ss)
  hinted_drop zero ss S = S
  hinted_drop (suc k) [] S = S
  hinted_drop (suc k) (s ∷ ss) S = hinted_drop k ss S.3

  trail_agrees : (ss : List ℕ) → Hinted M H ss → Agree (reverse (trail M H (current ss))) (symbols M ss)
  trail_agrees [] S = agree_none (reverse (trail M H 0))
  trail_agrees (s ∷ ss) S =
      let past = H.past_symbols s in
      let here = incoming_list (M.incoming s) in
      let turned = reverse-append past here ∙ ap (λ α. α ++ reverse past) (reverse_incoming (M.incoming s)) in
      subst (λ α. Agree α (here ++ symbols M ss)) (sym turned) (agree_onto here (reverse past) (symbols M ss) S.1)

  pub shadow_holds : H.past_sets 0 ≡ [] → (ss : List ℕ) → Hinted M H ss → Hold (shadow H (current ss)) ss
  shadow_holds root [] S = (tt, root)
  shadow_holds root (s ∷ ss) S = (eqb_refl s, S.2)

  -- cells that agree with symbols, from the newest on, carry them
  carried_down : (α : List Symbol) (ss : List ℕ) → Agree α (symbols M ss) → length α ≤ length ss → Hinted M H ss →
      carry M (take (length α) ss) α ≡ true
  carried_down [] ss A le S = refl
  carried_down (X ∷ α) [] A le S = absurd (omega arith)
  carried_down (X ∷ α) (s ∷ ss) A le S =
      let (Y, e) = S.0 in
      let Top = λ (o : Option Symbol). Agree (X ∷ α) (incoming_list o ++ symbols M ss) in
      let both : (X ≡ Y) × Agree α (symbols M ss) = subst Top e A in
      let entered = enters_own X (M.incoming s) (e ∙ ap {B = Option Symbol} Some (sym both.0)) in
      and_from (enters X (M.incoming s)) (carry M (take (length α) ss) α) entered
      (carried_down α ss both.1 (omega arith) S.3)

  -- a right side that ends the trail lies on top of the cells, in order
  pub carried_top : (α : List Symbol) (ss : List ℕ) → Ends α (trail M H (current ss)) → length α ≤ length ss →
      Hinted M H ss → carry M (reverse (take (length α) ss)) α ≡ true
  carried_top α ss ends le S =
      let same = length-reverse α in
      let agrees = agree_end α (trail M H (current ss)) (symbols M ss) ends (trail_agrees ss S) in
      let down = carried_down (reverse α) ss agrees (omega arith) S in
      let up = carry_reverse M (take (length (reverse α)) ss) (reverse α) down in
      simp (reverse-reverse, length-reverse) at up

module _ {states : ℕ} (M : Automaton) (safely : SafeUnderHints states M) where
  pushed : (ss : List ℕ) (t : ℕ) (X : Symbol) → Edge M (current ss) t → M.incoming t ≡ Some X →
      Hinted M safely.hints ss → Hinted M safely.hints (t ∷ ss)
  pushed ss t X edge e S =
      let H = safely.hints in
      let s = current ss in
      let ends = safely.safe.edge_symbols s t edge in
      let covers = safely.safe.edge_sets s t edge in
      let root = safely.hints_lawful.initial_sets in (
        (X, e),
        agree_end (H.past_symbols t) (trail M H s) (symbols M ss) ends (trail_agrees M H ss S),
        covers_hold (H.past_sets t) (shadow H s) ss covers (shadow_holds M H root ss S),
        S,
      )

  module _ {V : Type 0} (R : Algebra V) (ended : Bool) where
    move_hinted : (c d : Core V) → Hinted M safely.hints c.cells → move R M ended c ≡ on d →
        Hinted M safely.hints d.cells
    move_hinted c d S h = go (view_on R M ended c d h)
      where
        go : Shifted R M c d ⊎ Reduced R M c d → Hinted M safely.hints d.cells
        go (inl s) =
            let k = s.token.kind in
            let entry = (safely.lawful.shift_enters (current c.cells) k s.into s.acts).2 in
            let now = pushed c.cells s.into (Terminal k) (inl (k, s.acts)) entry S in
            subst (λ (e : Core V). Hinted M safely.hints e.cells) (sym s.now_is) now
        go (inr s) =
            let r = s.rule in
            let ss = drop (length r.right) c.cells in
            let goes = s.landed.goes in
            let entry = (safely.lawful.goto_enters (current ss) r.left s.into goes).2 in
            let below = hinted_drop M safely.hints (length r.right) c.cells S in
            let now = pushed ss s.into (Nonterminal r.left) (inr (r.left, goes)) entry below in
            subst (λ (e : Core V). Hinted M safely.hints e.cells) (sym s.now_is) now

    pub moves_hinted : (n : ℕ) (w : List Token) (c : Core V) → moves R M ended n (fresh w) ≡ on c →
        Hinted M safely.hints c.cells
    moves_hinted n w c e =
        kept_by_moves R M ended (λ d. Hinted M safely.hints d.cells) move_hinted n (fresh w) c tt e
