-- What cells carry.
use Rattle.std.proofs.Common.{◌≡◌, ℕ, suc, ◌+◌, ◌≤◌, false, ◌&&◌, List, [], ◌∷◌, length, Some, None, Option, sym, refl, ap, ◌∙◌, ap₂, arith}
use Rattle.std.specs.List.{list_all, enumerate_from}
use Rattle.std.proofs.lemmas.Bool.{and_right}
use Rattle.syntax.specs.declared.Symbol.{Symbol}
use Rattle.syntax.specs.Grammar.{Rule, start}
use Rattle.table.specs.Automaton.{Automaton, nth, symbol_at}
use Rattle.theory.specs.Machine.{enters, carry, carry_start}
use Rattle.reading.specs.Steps.{is_entered, carrying}

module _ (M : Automaton) where
  -- two cells are no start alone
  pub not_alone : (ss : List ℕ) → 2 ≤ length ss → false ≡ carry_start M ss
  not_alone [] h = absurd (omega arith)
  not_alone (s ∷ []) h = absurd (omega arith)
  not_alone (s ∷ t ∷ ss) h = sym (and_right (enters start (M.incoming s)) false refl)

  entered_so : (X : Symbol) (o : Option Symbol) → is_entered o (Some X) ≡ enters X o
  entered_so X None = refl
  entered_so X (Some Y) = refl

  module _ (p : ℕ) where
    -- every state is entered by the symbol of its number
    pub carrying_all : (k : ℕ) (ss : List ℕ) →
        list_all (λ (x : ℕ × ℕ). is_entered (M.incoming x.1) (symbol_at (M.grammar p) x.0)) (enumerate_from k ss)
        ≡ carrying M p k ss
    carrying_all k [] = refl
    carrying_all k (s ∷ ss) = ap (◌&&◌ (is_entered (M.incoming s) (symbol_at (M.grammar p) k))) (carrying_all (k + 1) ss)

    -- the symbols are those of the list from k on
    carrying_from : (k : ℕ) (ss : List ℕ) (α : List Symbol) →
        ((i m : ℕ) → m ≡ k + i → symbol_at (M.grammar p) m ≡ nth α i) → length ss ≡ length α →
        carrying M p k ss ≡ carry M ss α
    carrying_from k [] [] at e = refl
    carrying_from k [] (X ∷ α) at e = absurd (omega arith)
    carrying_from k (s ∷ ss) [] at e = absurd (omega arith)
    carrying_from k (s ∷ ss) (X ∷ α) at e =
        ap₂ ◌&&◌
        (ap (is_entered (M.incoming s)) (at 0 k (omega arith)) ∙ entered_so X (M.incoming s))
        (carrying_from (k + 1) ss α (λ i m is. at (suc i) m (omega arith)) (omega arith))

    pub carrying_is : (rule : Rule) (ss : List ℕ) → M.grammar p ≡ Some rule → length ss ≡ length rule.right →
        carrying M p 0 ss ≡ carry M ss rule.right
    carrying_is rule ss is e =
        carrying_from 0 ss rule.right
        (λ i m at. ap (λ r. symbol_at r m) is ∙ ap (nth rule.right) (let h : m ≡ i = omega arith in h)) e
