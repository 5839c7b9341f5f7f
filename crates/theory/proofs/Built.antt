-- The machine over trees: its values are trees of what its cells carry, and together they are what was read.
use Rattle.std.proofs.Common.{◌≡◌, ℕ, zero, suc, ◌+◌, ◌≤◌, Bool, true, ◌⊎◌, List, [], ◌∷◌, ◌++◌, reverse, length, take, drop, Some, sym, refl, ap, ◌∙◌, subst, inl, inr, arith}
use mathlib.Core.List.{reverse_aux}
use Rattle.std.proofs.lemmas.List.{append_assoc, append-nil}
use Rattle.std.proofs.lemmas.Bool.{and_parts, false≢true}
use Rattle.syntax.specs.declared.Token.{Token}
use Rattle.syntax.specs.declared.Symbol.{Symbol}
use Rattle.syntax.specs.declared.Symbol.TheVariants.{Terminal, Nonterminal}
use Rattle.syntax.specs.Trees.{Tree, Of, OfAll, text, texts, size, sizes, reach, reaches}
use Rattle.table.specs.Automaton.{Automaton}
use Rattle.table.specs.Lawful.{Lawful}
use Rattle.theory.specs.Machine.{Core, on, fresh, current, enters, carry, move, moves}
use Rattle.theory.specs.Maps.{forest, tree_algebra}
use Rattle.theory.specs.Theorems.{Within}
use Rattle.theory.proofs.Clash.{some_some}
use Rattle.theory.proofs.Symbols.{entered_by}
use Rattle.theory.proofs.Moves.{last_move}
use Rattle.theory.proofs.View.{Shifted, Reduced, same_core, view_on}

-- each cell's state is entered by a symbol, and its tree is of that symbol
abbrev pub Stacked : Automaton → List ℕ → List Tree → Type 0
Stacked M [] [] = Unit {0}
Stacked M [] (t ∷ ts) = ⊥
Stacked M (s ∷ ss) [] = ⊥
Stacked M (s ∷ ss) (t ∷ ts) = ((X : Symbol) × (M.incoming s ≡ Some X) × Of M.grammar X t) × Stacked M ss ts

-- the tokens of the trees, of which the newest is first in the list and last in the text
abbrev pub text_of : List Tree → List Token
text_of [] = []
text_of (t ∷ ts) = text_of ts ++ text t

abbrev pub steps_of : List Tree → ℕ
steps_of [] = 0
steps_of (t ∷ ts) = steps_of ts + size t

-- no tree reaches above L from its own height
abbrev pub Under : ℕ → List Tree → Type 0
Under L [] = Unit {0}
Under L (t ∷ ts) = (length ts + reach t ≤ L) × Under L ts

-- c was built from w by n moves in L cells
pub record Built (M : Automaton) (w : List Token) (n L : ℕ) (c : Core Tree) : Type 0 where
  pub stacked : Stacked M c.cells c.values
  pub text_is : text_of c.values ++ c.rest ≡ w
  pub steps_are : steps_of c.values ≡ n
  pub under : Under L c.values

-- what lies on the stack

module _ (M : Automaton) where
  stacked_length : (ss : List ℕ) (vs : List Tree) → Stacked M ss vs → length ss ≡ length vs
  stacked_length [] [] S = refl
  stacked_length [] (v ∷ vs) S = absurd S
  stacked_length (s ∷ ss) [] S = absurd S
  stacked_length (s ∷ ss) (v ∷ vs) S = ap suc (stacked_length ss vs S.1)

  stacked_take : (k : ℕ) (ss : List ℕ) (vs : List Tree) → Stacked M ss vs → Stacked M (take k ss) (take k vs)
  stacked_take zero ss vs S = tt
  stacked_take (suc k) [] [] S = S
  stacked_take (suc k) [] (v ∷ vs) S = absurd S
  stacked_take (suc k) (s ∷ ss) [] S = absurd S
  stacked_take (suc k) (s ∷ ss) (v ∷ vs) S = (S.0, stacked_take k ss vs S.1)

  stacked_drop : (k : ℕ) (ss : List ℕ) (vs : List Tree) → Stacked M ss vs → Stacked M (drop k ss) (drop k vs)
  stacked_drop zero ss vs S = S
  stacked_drop (suc k) [] [] S = S
  stacked_drop (suc k) [] (v ∷ vs) S = absurd S
  stacked_drop (suc k) (s ∷ ss) [] S = absurd S
  stacked_drop (suc k) (s ∷ ss) (v ∷ vs) S = stacked_drop k ss vs S.1

  stacked_onto : (ss ss' : List ℕ) (vs vs' : List Tree) → Stacked M ss vs → Stacked M ss' vs' →
      Stacked M (reverse_aux ss ss') (reverse_aux vs vs')
  stacked_onto [] ss' [] vs' S S' = S'
  stacked_onto [] ss' (v ∷ vs) vs' S S' = absurd S
  stacked_onto (s ∷ ss) ss' [] vs' S S' = absurd S
  stacked_onto (s ∷ ss) ss' (v ∷ vs) vs' S S' = stacked_onto ss (s ∷ ss') vs (v ∷ vs') S.1 (S.0, S')

  -- the trees of cells that carry α are trees of α
  carried_trees : (ss : List ℕ) (vs : List Tree) (α : List Symbol) → Stacked M ss vs → carry M ss α ≡ true →
      OfAll M.grammar α (forest vs)
  carried_trees [] [] [] S h = refl
  carried_trees [] [] (X ∷ α) S h = absurd (false≢true h)
  carried_trees [] (v ∷ vs) α S h = absurd S
  carried_trees (s ∷ ss) [] α S h = absurd S
  carried_trees (s ∷ ss) (v ∷ vs) [] S h = absurd (false≢true h)
  carried_trees (s ∷ ss) (v ∷ vs) (X ∷ α) S h =
      let (e, g) = and_parts (enters X (M.incoming s)) (carry M ss α) h in
      let (Y, entry, o) = S.0 in
      let same : Y ≡ X = some_some (sym entry ∙ entered_by X (M.incoming s) e) in
      (X, α, refl, subst (λ (Z : Symbol). Of M.grammar Z v) same o, carried_trees ss vs α S.1 g)

-- the k newest trees, gathered in order onto others, leave text, steps and heights as they are

gather_text : (k : ℕ) (vs acc : List Tree) →
    text_of (drop k vs) ++ texts (forest (reverse_aux (take k vs) acc)) ≡ text_of vs ++ texts (forest acc)
gather_text zero vs acc = refl
gather_text (suc k) [] acc = refl
gather_text (suc k) (v ∷ vs) acc =
    gather_text k vs (v ∷ acc) ∙ sym (append_assoc (text_of vs) (text v) (texts (forest acc)))

gather_steps : (k : ℕ) (vs acc : List Tree) →
    steps_of (drop k vs) + sizes (forest (reverse_aux (take k vs) acc)) ≡ steps_of vs + sizes (forest acc)
gather_steps zero vs acc = refl
gather_steps (suc k) [] acc = refl
gather_steps (suc k) (v ∷ vs) acc = let e = gather_steps k vs (v ∷ acc) in omega arith

-- no tree reaches above L, of which the first is at height h and each other one higher
abbrev Above : ℕ → ℕ → List Tree → Type 0
Above L h [] = Unit {0}
Above L h (t ∷ ts) = (h + reach t ≤ L) × Above L (suc h) ts

gather_under : (L k : ℕ) (vs acc : List Tree) → Under L vs → Above L (length vs) acc →
    Above L (length (drop k vs)) (reverse_aux (take k vs) acc)
gather_under L zero vs acc U A = A
gather_under L (suc k) [] acc U A = A
gather_under L (suc k) (v ∷ vs) acc U A = gather_under L k vs (v ∷ acc) U.1 (U.0, A)

under_drop : (L k : ℕ) (vs : List Tree) → Under L vs → Under L (drop k vs)
under_drop L zero vs U = U
under_drop L (suc k) [] U = U
under_drop L (suc k) (v ∷ vs) U = under_drop L k vs U.1

reaches_under : (L b i : ℕ) (ts : List Tree) → b ≤ L → Above L (b + i) ts → b + reaches i (forest ts) ≤ L
reaches_under L b i [] h A = omega arith
reaches_under L b i (t ∷ ts) h A =
    let e : suc (b + i) ≡ b + (i + 1) = omega arith in
    let below = reaches_under L b (i + 1) ts h (subst (λ (x : ℕ). Above L x ts) e A.1) in
    let here = A.0 in
    omega arith

-- a move builds on

module _ (states : ℕ) (M : Automaton) (law : Lawful states M) (w : List Token) (L n : ℕ) (c d : Core Tree)
    (B : Built M w n L c) (fits : length d.cells ≤ L) where
  shift_builds : Shifted tree_algebra M c d → Built M w (suc n) L d
  shift_builds s =
      let k = s.token in
      let vs = c.values in
      let count = B.steps_are in
      let level = stacked_length M c.cells vs B.stacked in
      let room : suc (length c.cells) ≤ L = subst (λ (e : Core Tree). length e.cells ≤ L) s.now_is fits in
      let (state, kind, entry) = law.shift_enters (current c.cells) k.kind s.into s.acts in
      let all = append_assoc (text_of vs) (k ∷ []) s.others ∙ ap (λ r. text_of vs ++ r) (sym s.rest_is) in
      subst (Built M w (suc n) L) (sym s.now_is) (record {
        stacked = ((Terminal k.kind, entry, refl), B.stacked);
        text_is = all ∙ B.text_is;
        steps_are = omega arith;
        under = (omega arith, B.under);
      })

  reduce_builds : Reduced tree_algebra M c d → Built M w (suc n) L d
  reduce_builds s =
      let r = s.rule in
      let k = length r.right in
      let vs = c.values in
      let kids = reverse (take k vs) in
      let S = stacked_drop M k c.cells vs B.stacked in
      let taken = stacked_take M k c.cells vs B.stacked in
      let top = stacked_onto M (take k c.cells) [] (take k vs) [] taken tt in
      let kids_of = carried_trees M (reverse (take k c.cells)) kids r.right top s.landed.carried in
      let level = stacked_length M (drop k c.cells) (drop k vs) S in
      let Fits = λ (e : Core Tree). length e.cells ≤ L in
      let room : suc (length (drop k c.cells)) ≤ L = subst Fits s.now_is fits in
      let base : length (drop k vs) + 1 ≤ L = omega arith in
      let e : length (drop k vs) ≡ length (drop k vs) + 0 = omega arith in
      let above = subst (λ (x : ℕ). Above L x kids) e (gather_under L k vs [] B.under tt) in
      let high = reaches_under L (length (drop k vs)) 0 kids (omega arith) above in
      let sum = gather_steps k vs [] in
      let count = B.steps_are in
      let (state, few, entry) = law.goto_enters (current (drop k c.cells)) r.left s.into s.landed.goes in
      subst (Built M w (suc n) L) (sym s.now_is) (record {
        stacked = ((Nonterminal r.left, entry, (r, s.known, refl, kids_of)), S);
        text_is = ap (λ u. u ++ c.rest) (gather_text k vs [] ∙ append-nil (text_of vs)) ∙ B.text_is;
        steps_are = omega arith;
        under = (omega arith, under_drop L k vs B.under);
      })

  move_builds : (ended : Bool) → move tree_algebra M ended c ≡ on d → Built M w (suc n) L d
  move_builds ended h = go (view_on tree_algebra M ended c d h)
    where
      go : Shifted tree_algebra M c d ⊎ Reduced tree_algebra M c d → Built M w (suc n) L d
      go (inl s) = shift_builds s
      go (inr s) = reduce_builds s

pub built : (states : ℕ) (M : Automaton) → Lawful states M → (ended : Bool) (w : List Token) (L n : ℕ)
    (c : Core Tree) → Within tree_algebra M ended w n L → moves tree_algebra M ended n (fresh w) ≡ on c →
    Built M w n L c
built states M law ended w L zero c fits h =
    let none : Built M w 0 L (fresh w) = record { stacked = tt; text_is = refl; steps_are = refl; under = tt } in
    subst (Built M w 0 L) (same_core (fresh w) c h) none
built states M law ended w L (suc n) c fits h =
    let (d, e, g) = last_move tree_algebra M ended n (fresh w) c h in
    let B = built states M law ended w L n d (λ m b le f. fits m b (omega arith) f) e in
    move_builds states M law w L n d c B (fits (suc n) c (omega arith) h) ended g
