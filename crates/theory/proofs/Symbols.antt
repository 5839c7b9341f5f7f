-- The tests of symbols, and what they say.
use Rattle.std.proofs.Common.{◌≡◌, ℕ, true, false, List, [], ◌∷◌, reverse, Some, None, Option, sym, refl, ap, subst}
use mathlib.Core.List.{reverse_aux}
use Rattle.std.proofs.lemmas.Bool.{eqb-true, eq-eqb, and_parts, and_from, false≢true}
use Rattle.syntax.specs.declared.Symbol.{Symbol}
use Rattle.syntax.specs.declared.Symbol.TheVariants.{Terminal, Nonterminal}
use Rattle.syntax.specs.Grammar.{start}
use Rattle.table.specs.Automaton.{Automaton}
use Rattle.theory.specs.Machine.{same_symbol, enters, carry, carry_start}

same_true : (X Y : Symbol) → same_symbol X Y ≡ true → X ≡ Y
same_true (Terminal a) (Terminal b) h = ap Terminal (eqb-true a b h)
same_true (Terminal a) (Nonterminal b) h = absurd (false≢true h)
same_true (Nonterminal a) (Terminal b) h = absurd (false≢true h)
same_true (Nonterminal a) (Nonterminal b) h = ap Nonterminal (eqb-true a b h)

same_own : (X : Symbol) → same_symbol X X ≡ true
same_own (Terminal a) = eq-eqb a a refl
same_own (Nonterminal a) = eq-eqb a a refl

pub entered_by : (X : Symbol) (o : Option Symbol) → enters X o ≡ true → o ≡ Some X
entered_by X None h = absurd (false≢true h)
entered_by X (Some Y) h = ap {B = Option Symbol} Some (same_true Y X h)

pub enters_own : (X : Symbol) (o : Option Symbol) → o ≡ Some X → enters X o ≡ true
enters_own X o e = subst (λ (p : Option Symbol). enters X p ≡ true) (sym e) (same_own X)

module _ (M : Automaton) where
  -- what is carried in order is carried in the opposite order too
  carry_onto : (ss ss' : List ℕ) (α α' : List Symbol) → carry M ss α ≡ true → carry M ss' α' ≡ true →
      carry M (reverse_aux ss ss') (reverse_aux α α') ≡ true
  carry_onto [] ss' [] α' h h' = h'
  carry_onto [] ss' (X ∷ α) α' h h' = absurd (false≢true h)
  carry_onto (s ∷ ss) ss' [] α' h h' = absurd (false≢true h)
  carry_onto (s ∷ ss) ss' (X ∷ α) α' h h' =
      let (e, g) = and_parts (enters X (M.incoming s)) (carry M ss α) h in
      carry_onto ss (s ∷ ss') α (X ∷ α') g (and_from (enters X (M.incoming s)) (carry M ss' α') e h')

  pub carry_reverse : (ss : List ℕ) (α : List Symbol) → carry M ss α ≡ true → carry M (reverse ss) (reverse α) ≡ true
  carry_reverse ss α h = carry_onto ss [] α [] h refl

  -- the start alone
  pub one_start : (ss : List ℕ) → carry_start M ss ≡ true → (s : ℕ) × (ss ≡ s ∷ []) × (M.incoming s ≡ Some start)
  one_start [] h = absurd (false≢true h)
  one_start (s ∷ []) h =
      let entered = (and_parts (enters start (M.incoming s)) true h).0 in
      (s, refl, entered_by start (M.incoming s) entered)
  one_start (s ∷ t ∷ ss) h =
      absurd (false≢true (and_parts (enters start (M.incoming s)) false h).1)
