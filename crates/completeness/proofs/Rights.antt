-- The right sides of a lawful table, symbol by symbol, and what they begin with.
use Rattle.std.proofs.Common.{◌≡◌, ℕ, zero, suc, ◌+◌, ◌<◌, ◌≤◌, Bool, true, false, cond, ◌&&◌, ◌||◌, eqb, List, [], ◌∷◌, length, drop, Some, None, Option, sym, refl, ap, ◌∙◌, subst, ⊎_elim, arith, eqb→eq}
use lib.Bits.{bit_or}
use Rattle.syntax.specs.declared.Symbol.{Symbol}
use Rattle.syntax.specs.declared.Symbol.TheVariants.{Terminal, Nonterminal}
use Rattle.syntax.specs.Grammar.{Rule, terminals, longest, InRange, Every}
use Rattle.table.specs.Automaton.{Automaton, nth}
use Rattle.table.specs.Lawful.{narrow, Lawful}
use Rattle.table.specs.Hints.{Set, Hints, added, right_of}
use Rattle.table.specs.Completeness.{nullable_symbol, first_symbol, nullable_all, first_of, wanted}
use Rattle.layout.specs.Choices.{given}
use Rattle.layout.specs.Records.{sixteen, member}
use Rattle.hinted.proofs.Lists.{nth_some}
use Rattle.hinted.specs.Sets.{Holds, InRange as HintsInRange}
use Rattle.wellformed.proofs.Tests.{none_some, some_same, T_or, T_and}
use Rattle.completeness.specs.Rights.{rights, Begins}
use Rattle.wellformed.proofs.Bits.{stands_either, stands_if}
use Rattle.wellformed.proofs.Sets.{Bounded}

-- ITEMS OF LISTS

module _ {A : Type 0} where
  pub nth_within : (xs : List A) (k : ℕ) (x : A) → nth xs k ≡ Some x → k < length xs
  nth_within [] k x e = absurd (none_some e)
  nth_within (y ∷ ys) zero x e = omega arith
  nth_within (y ∷ ys) (suc k) x e = let lt = nth_within ys k x e in omega arith

  pub every_nth : (P : A → Type 0) (xs : List A) (k : ℕ) (x : A) → Every P xs → nth xs k ≡ Some x → P x
  every_nth P [] k x all e = absurd (none_some e)
  every_nth P (y ∷ ys) zero x all e = subst P (some_same e) all.0
  every_nth P (y ∷ ys) (suc k) x all e = every_nth P ys k x all.1 e

  pub every_drop : (P : A → Type 0) (k : ℕ) (xs : List A) → Every P xs → Every P (drop k xs)
  every_drop P zero xs all = all
  every_drop P (suc k) [] all = tt
  every_drop P (suc k) (x ∷ xs) all = every_drop P k xs all.1

-- RIGHT SIDES

module _ (M : Automaton) (lawful : Lawful narrow M) (p : ℕ) where
  -- few symbols, each in range
  abbrev Ranged : List Symbol → Type 0
  Ranged α = (length α ≤ longest) × Every InRange α

  of_rule : (o : Option Rule) → M.grammar p ≡ o → Ranged (given [] (λ α. α) (right_of o))
  of_rule None e = (omega arith, tt)
  of_rule (Some r) e = let ranged = lawful.rules p r e in (ranged.short, ranged.symbols)

  pub rights_ranged : Ranged (rights M.grammar p)
  rights_ranged = go (eqb p added)
    where
      go : (b : Bool) → Ranged (given [] (λ α. α) (cond b (Some (Nonterminal 0 ∷ [])) (right_of (M.grammar p))))
      go true = (omega arith, (omega arith, tt))
      go false = of_rule (M.grammar p) refl

-- WHAT THEY BEGIN WITH

or_join : (x y z : Bool) → (x || y) || z ≡ x || (y || z)
or_join true y z = refl
or_join false y z = refl

pub or_nothing : (x : Bool) → x ≡ x || false
or_nothing true = refl
or_nothing false = refl

-- symbol k, of which f holds the first terminals; m holds those found before
module _ (H : Hints) (α : List Symbol) (k : ℕ) (X : Symbol) (is : nth α k ≡ Some X) where
  abbrev behind : List Symbol
  behind = drop (k + 1) α

  here : drop k α ≡ X ∷ behind
  here = nth_some α k X is

  pub nullable_on : nullable_symbol H X ≡ true → nullable_all H behind ≡ nullable_all H (drop k α)
  nullable_on e = ap (λ b. b && nullable_all H behind) (sym e) ∙ ap (nullable_all H) (sym here)

  pub nullable_end : nullable_symbol H X ≡ false → false ≡ nullable_all H (drop k α)
  nullable_end e = ap (λ b. b && nullable_all H behind) (sym e) ∙ ap (nullable_all H) (sym here)

  module _ (m f : ℕ) (in_f : Holds f (first_symbol H X)) (a : ℕ) where
    joined : member sixteen (bit_or m f) a ≡ member sixteen m a || first_symbol H X a
    joined = stands_either sixteen m f (member sixteen m) (first_symbol H X) (λ a. refl) in_f a

    pub first_on : nullable_symbol H X ≡ true →
        member sixteen (bit_or m f) a || first_of H behind a ≡ member sixteen m a || first_of H (drop k α) a
    first_on e =
        ap (λ b. b || first_of H behind a) joined
        ∙ or_join (member sixteen m a) (first_symbol H X a) (first_of H behind a)
        ∙ ap (λ b. member sixteen m a || (first_symbol H X a || (b && first_of H behind a))) (sym e)
        ∙ ap (λ γ. member sixteen m a || first_of H γ a) (sym here)

    pub first_end : nullable_symbol H X ≡ false →
        member sixteen (bit_or m f) a ≡ member sixteen m a || first_of H (drop k α) a
    first_end e =
        joined
        ∙ ap (λ b. member sixteen m a || b) (or_nothing (first_symbol H X a))
        ∙ ap (λ b. member sixteen m a || (first_symbol H X a || (b && first_of H behind a))) (sym e)
        ∙ ap (λ γ. member sixteen m a || first_of H γ a) (sym here)

-- from k on nothing is left: the first terminals that m has are all that are behind j
pub nothing_left : (H : Hints) (α : List Symbol) (j k m : ℕ) → drop k α ≡ [] →
    nullable_all H (drop k α) ≡ nullable_all H (drop j α) →
    ((a : ℕ) → member sixteen m a || first_of H (drop k α) a ≡ first_of H (drop j α) a) →
    Begins (first_of H (drop j α)) (nullable_all H (drop j α)) (record { firsts = m; nullable = true })
nothing_left H α j k m none same_nullable same_firsts = record {
  firsts = λ a.
      or_nothing (member sixteen m a)
      ∙ ap (λ γ. member sixteen m a || first_of H γ a) (sym none)
      ∙ same_firsts a;
  nullable = ap (nullable_all H) (sym none) ∙ same_nullable;
}

-- first terminals are terminals
module _ (H : Hints) (ranged : HintsInRange H) where
  symbol_few : (X : Symbol) → InRange X → Bounded terminals (first_symbol H X)
  symbol_few (Terminal b) fits a h = let is = eqb→eq b a h in omega arith
  symbol_few (Nonterminal n) fits a h = ranged.firsts_fit n a h

  pub first_few : (α : List Symbol) → Every InRange α → Bounded terminals (first_of H α)
  first_few [] fits a h = absurd h
  first_few (X ∷ α) fits a h =
      ⊎_elim
      (symbol_few X fits.0 a)
      (λ k. first_few α fits.1 a (T_and (nullable_symbol H X) (first_of H α a) k).1)
      (T_or (first_symbol H X a) (nullable_symbol H X && first_of H α a) h)

-- WHAT IS WANTED BEHIND A SYMBOL

pub wanted_holds : (H : Hints) (β : List Symbol) (X : Set) (f m : ℕ) → Holds f (first_of H β) → Holds m X →
    Holds (bit_or f (cond (nullable_all H β) m 0)) (wanted H β X)
wanted_holds H β X f m in_f in-m =
    stands_either sixteen f (cond (nullable_all H β) m 0) (first_of H β) (λ a. nullable_all H β && X a) in_f
    (stands_if sixteen (nullable_all H β) m X in-m)

-- a dot before a symbol can go on
pub dot_few : (M : Automaton) → Lawful narrow M → (p k : ℕ) (X : Symbol) → nth (rights M.grammar p) k ≡ Some X →
    k < 255
dot_few M lawful p k X is =
    let within = nth_within (rights M.grammar p) k X is in omega (arith, (rights_ranged M lawful p).0)
