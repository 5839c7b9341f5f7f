-- What the tests of sets, lists and records say.
use Rattle.std.proofs.Common.{◌≡◌, ℕ, ◌-◌, ◌<◌, Bool, false, T, eqb, List, [], ◌∷◌, ◌++◌, length, take, drop, Some, Option, sym, refl, ap, ◌∙◌, subst, ap₂, arith, le→leb, eqb→eq}
use lib.Dec.{eqb_refl}
use Rattle.std.proofs.lemmas.List.{length-append, take-append-drop, drop_at}
use Rattle.syntax.specs.declared.Symbol.{Symbol}
use Rattle.syntax.specs.Grammar.{Every}
use Rattle.table.specs.Hints.{Set, ◌∈◌}
use Rattle.table.specs.Safety.{Ends, Covers}
use Rattle.layout.specs.Choices.{given}
use Rattle.layout.specs.Checking.{subset, same_symbols, ends, covers}
use Rattle.wellformed.proofs.Tests.{T_and, and_T, T_given, given_T}
use Rattle.wellformed.proofs.Says.{Says, itself, says_as, one_test, always, both, symbols_same}
use Rattle.wellformed.proofs.Sets.{Bounded, says_subset}

-- there is one, and it is so, where what is found helps to tell
pub found_says : {X : Type 0} {f : X → Bool} {Q : X → Type 0} (o : Option X) →
    ((x : X) → o ≡ Some x → Says (f x) (Q x)) → Says (given false f o) ((x : X) × (o ≡ Some x) × Q x)
found_says {f = f} o s = record {
  to = λ h. let (x, e, k) = T_given f o h in (x, e, (s x e).to k);
  back = λ h. given_T f o h.0 h.1 ((s h.0 h.1).back h.2);
}

-- SETS

-- one state of which the other set is asked
pub subset_one : (n s : ℕ) (Y : Set) → s < n → Y s ≡ subset n (eqb s) Y
subset_one n s Y lt =
    one_test (itself (Y s)) (says_as
    (λ h. h s (eqb_refl s))
    (λ h x k. subst (λ z. z ∈ Y) (eqb→eq s x k) h)
    (says_subset n (eqb s) Y (λ x h. subst (λ z. z < n) (eqb→eq s x h) lt)))

pub says_covers : (n : ℕ) (xs ys : List Set) → Every (Bounded n) ys → Says (covers n xs ys) (Covers xs ys)
unfolding covers
says_covers n [] ys few = always
says_covers n (X ∷ xs) [] few = itself false
says_covers n (X ∷ xs) (Y ∷ ys) few = both (says_subset n Y X few.0) (says_covers n xs ys few.1)

-- LISTS OF SYMBOLS

says_symbols : (xs ys : List Symbol) → Says (same_symbols xs ys) (xs ≡ ys)
unfolding same_symbols
says_symbols [] [] = record { to = λ h. refl; back = λ e. tt }
says_symbols [] (y ∷ ys) = record { to = λ h. absurd h; back = λ e. let long = ap length e in absurd (omega arith) }
says_symbols (x ∷ xs) [] = record { to = λ h. absurd h; back = λ e. let long = ap length e in absurd (omega arith) }
says_symbols (x ∷ xs) (y ∷ ys) =
    says_as
    (λ h. ap₂ {C = List Symbol} (λ z zs. z ∷ zs) h.0 h.1)
    (λ e. (cc, cc))
    (both (symbols_same x y) (says_symbols xs ys))

ends_own : (zs xs : List Symbol) → T (ends xs (zs ++ xs))
ends_own zs xs =
    let long = length-append zs xs in
    and_T _ _ (le→leb (length xs) (length (zs ++ xs)) (omega arith))
    ((says_symbols xs _).back (sym (drop_at zs xs (length (zs ++ xs) - length xs) (omega arith))))

pub says_ends : (xs ys : List Symbol) → Says (ends xs ys) (Ends xs ys)
says_ends xs ys = record {
  to = λ h.
      let n = length ys - length xs in
      let e = (says_symbols xs (drop n ys)).to (T_and _ _ h).1 in
      (take n ys, ap (λ zs. take n ys ++ zs) e ∙ take-append-drop n ys);
  back = λ h. subst (λ zs. T (ends xs zs)) h.1 (ends_own h.0 xs);
}
