-- An item, by its default reduction and by what stands behind its dot.
use Rattle.std.proofs.Math.Bool.{or_comm}
use Rattle.std.proofs.Common.{◌≡◌, ℕ, zero, suc, ◌+◌, ◌^◌, ◌<◌, Bool, false, ◌&&◌, ◌||◌, T, eqb, List, [], ◌∷◌, length, drop, Some, None, Option, sym, refl, ap, ◌∙◌, subst, ⊎_elim, arith}
use Rattle.syntax.specs.declared.Symbol.{Symbol}
use Rattle.syntax.specs.Grammar.{terminals, InRange, Every}
use Rattle.table.specs.declared.Action.TheVariants.{Reduce}
use Rattle.table.specs.Automaton.{Automaton, decide}
use Rattle.table.specs.Lawful.{narrow, Lawful}
use Rattle.table.specs.Hints.{Set, Hints}
use Rattle.table.specs.Completeness.{nullable_all, first_of}
use Rattle.layout.specs.Choices.{given, implies, below}
use Rattle.layout.specs.Checking.{reduces_by}
use Rattle.layout.specs.CompletenessTests.{done_reduces}
use Rattle.hinted.specs.Sets.{Holds, InRange as HintsInRange}
use Rattle.wellformed.proofs.Tests.{T_and, T_or}
use Rattle.completeness.specs.declared.item.Item.{Item}
use Rattle.completeness.specs.Items.{OfTerminals, looks_of, behind, wanted_by}
use Rattle.completeness.proofs.Bits.{all_or_none}
use Rattle.completeness.proofs.Rights.{every_drop, rights_ranged, first_few}
use Rattle.wellformed.proofs.Sets.{Bounded}

-- a default q decides on every terminal
module _ (M : Automaton) (s q : ℕ) (is : M.default s ≡ Some q) where
  decides : (a : ℕ) → decide M s a ≡ Reduce q
  decides a = rw is refl

  pub by_default : (H : Hints) (p m : ℕ) (X : Set) → m < 2 ^ narrow → Bounded terminals X → Holds m X →
      eqb m 0 || eqb q p ≡ done_reduces M H s p X
  by_default H p m X fits few in-m =
      or_comm (eqb m 0) (eqb q p)
      ∙ all_or_none m X fits few in-m (eqb q p)
      ∙ (λ i. below terminals (λ a. implies (X a) (reduces_by p (sym (decides a) i))))

-- WHAT STANDS BEHIND THE DOT

-- what is wanted of first items are terminals
module _ (M : Automaton) (lawful : Lawful narrow M) (H : Hints) (ranged : HintsInRange H) (x : Item) where
  abbrev β : List Symbol
  β = behind M.grammar x

  behind_fits : Every InRange β
  behind_fits = every_drop InRange (x.dot + 1) _ (rights_ranged M lawful x.production).1

  few : Bounded terminals (wanted_by M H x)
  few a h =
      ⊎_elim
      (first_few H ranged β behind_fits a)
      (λ k. ranged.look_aheads_fit _ _ _ a (T_and (nullable_all H β) (looks_of H x a) k).1)
      (T_or (first_of H β a) (nullable_all H β && looks_of H x a) h)

  pub wanted_few : (m : ℕ) → Holds m (wanted_by M H x) → OfTerminals m
  wanted_few m in-m a h = few a (subst T (in-m a) h)

module _ (d : ℕ) (f : List Symbol → Bool) where
  none_behind : (d : ℕ) (X : Symbol) (γ : List Symbol) → drop d [] ≡ X ∷ γ → ⊥
  none_behind zero X γ e = let long = ap length e in omega arith
  none_behind (suc d) X γ e = let long = ap length e in omega arith

  -- nothing, or there is no right side
  pub behind_nothing : (o : Option (List Symbol)) → drop d (given [] (λ α. α) o) ≡ [] →
      given false (λ α. f []) o ≡ given false (λ α. f (drop d α)) o
  behind_nothing None e = refl
  behind_nothing (Some α) e = ap f (sym e)

  -- a symbol
  pub behind_symbol : (o : Option (List Symbol)) (X : Symbol) (γ : List Symbol) →
      drop d (given [] (λ α. α) o) ≡ X ∷ γ → f (X ∷ γ) ≡ given false (λ α. f (drop d α)) o
  behind_symbol None X γ e = absurd (none_behind d X γ e)
  behind_symbol (Some α) X γ e = ap f (sym e)
