-- A safe table never slips.
use Rattle.std.proofs.Common.{◌≡◌, ℕ, Bool, true, false, cond, List, [], ◌∷◌, length, drop, Some, None, Option, Result, sym, refl, ap, ◌∙◌, subst, inl, inr, arith}
use Rattle.std.proofs.lemmas.Bool.{and_from, le-leb}
use Rattle.syntax.specs.declared.Token.{Token}
use Rattle.syntax.specs.Grammar.{Rule, start, Present}
use Rattle.syntax.specs.Values.{Algebra}
use Rattle.table.specs.declared.Action.{Action}
use Rattle.table.specs.declared.Action.TheVariants.{Shift, Reduce, Accept, Reject}
use Rattle.table.specs.Automaton.{Automaton}
use Rattle.table.specs.Lawful.{Lawful}
use Rattle.table.specs.Hints.{Set, shadow}
use Rattle.table.specs.Safety.{Reduces}
use Rattle.table.specs.Validity.{SafeUnderHints}
use Rattle.theory.specs.Machine.{Core, Move, on, accepts, rejects, slips, starves, current, seen, found, enters}
use Rattle.theory.specs.Machine.{carry_start, shift_to, land, reduce_by, accept_with, perform, move}
use Rattle.theory.specs.Theorems.{NeverSlips}
use Rattle.theory.proofs.Clash.{clash, some_some, none_some}
use Rattle.theory.proofs.Symbols.{enters_own}
use Rattle.theory.proofs.View.{found_reduce, found_seen, Landed, lands}
use Rattle.theory.proofs.Hinted.{Hold, Hinted, held_at, shadow_holds, carried_top, moves_hinted}
use Rattle.table.specs.declared.Slip.{Slip}
use Rattle.table.specs.declared.Slip.TheVariants.{AtEnd}

abbrev Firm : {V : Type 0} → Move V → Type 0
Firm (on c) = Unit {0}
Firm accepts = Unit {0}
Firm rejects = Unit {0}
Firm (slips k) = ⊥
Firm starves = Unit {0}

known : (states : ℕ) (M : Automaton) → Lawful states M → (s p : ℕ) → Reduces M s p → Present (M.grammar p)
known states M law s p (inl e) = (law.default_known s p e).1
known states M law s p (inr (a, e)) = (law.reduce_known s a p e).2

at_end : (ended : Bool) (a : ℕ) → seen ended [] ≡ Some a → a ≡ 0
at_end true a e = sym (some_some e)
at_end false a e = absurd (none_some e)

module _ {states : ℕ} (M : Automaton) (safely : SafeUnderHints states M) where
  -- a reduce lands where the hints are true
  reduce_lands : (ss : List ℕ) → Hinted M safely.hints ss → (p : ℕ) (r : Rule) → Reduces M (current ss) p →
      M.grammar p ≡ Some r → (t : ℕ) × Landed M r ss t
  reduce_lands ss S p r reduces e =
      let H = safely.hints in
      let s = current ss in
      let k = length r.right in
      let (P, at, all_go) = safely.safe.reduce_gotos s p r reduces e in
      let (le, inside) = held_at (shadow H s) k P ss (shadow_holds M H safely.hints_lawful.initial_sets ss S) at in
      let (t, goes) = all_go (current (drop k ss)) inside in
      let ends = safely.safe.reduce_symbols s p r reduces e in
      (t, record { enough = le-leb k (length ss) le; carried = carried_top M H r.right ss ends le S; goes = goes })

  -- an accept finds the start alone
  accept_lands : (ss : List ℕ) → Hinted M safely.hints ss → (a : ℕ) → M.action (current ss) a ≡ Accept →
      carry_start M ss ≡ true
  accept_lands [] S a e = absurd ((safely.safe.accept_alone 0 a e).not_initial refl)
  accept_lands (s ∷ []) S a e =
      let entry = (safely.safe.accept_alone s a e).entered_by_start in
      and_from (enters start (M.incoming s)) true (enters_own start (M.incoming s) entry) refl
  accept_lands (s ∷ t ∷ ss) S a e =
      let (P, sets, only) = (safely.safe.accept_alone s a e).initial_below in
      let inside : Hold (P ∷ []) (t ∷ ss) = subst (λ (ps : List Set). Hold ps (t ∷ ss)) sets S.2 in
      let bottom = (only t).0 inside.0 in
      let (X, entry) = S.3.0 in
      absurd (none_some (sym safely.lawful.initial_bare ∙ ap M.incoming (sym bottom) ∙ entry))

  module _ {V : Type 0} (R : Algebra V) (ended : Bool) (c : Core V) (S : Hinted M safely.hints c.cells) where
    abbrev Finds : Action → Type 0
    Finds x = found M (current c.cells) (seen ended c.rest) ≡ Some x

    shift_firm : (t : ℕ) → Finds (Shift t) → Firm (shift_to R t c.cells c.values c.rest)
    shift_firm t e =
        go c.rest refl (found_seen M (current c.cells) (seen ended c.rest) (Shift t) (λ p f. clash (cc)) e)
      where
        go : (w : List Token) → c.rest ≡ w →
            (a : ℕ) × (seen ended c.rest ≡ Some a) × (M.action (current c.cells) a ≡ Shift t) →
            Firm (shift_to R t c.cells c.values w)
        go [] f (a, sees, act) =
            let none = at_end ended a (ap (seen ended) (sym f) ∙ sees) in
            let kind = (safely.lawful.shift_enters (current c.cells) a t act).1.0 in
            omega arith
        go (k ∷ w) f o = tt

    reduce_firm : (p : ℕ) → Finds (Reduce p) → Firm (reduce_by R M p (M.grammar p) c)
    reduce_firm p e =
        let reduces = found_reduce M (current c.cells) (seen ended c.rest) p e in
        let (r, k) = known states M safely.lawful (current c.cells) p reduces in
        let (t, l) = reduce_lands c.cells S p r reduces k in
        let Lands = λ (x : Result ℕ Slip). Firm (land R p (length r.right) c x) in
        let landed : Firm (reduce_by R M p (Some r) c) = subst Lands (sym (lands M r c.cells t l)) tt in
        subst (λ (o : Option Rule). Firm (reduce_by R M p o c)) (sym k) landed

    accept_firm : Finds Accept → Firm {V = V} (accept_with M c.cells)
    accept_firm e =
        let sight = seen ended c.rest in
        let (a, sees, act) = found_seen M (current c.cells) sight Accept (λ p f. clash (cc)) e in
        let start_alone = accept_lands c.cells S a act in
        subst (λ (b : Bool). Firm {V = V} (cond b accepts (slips AtEnd))) (sym start_alone) tt

    move_firm : Firm (move R M ended c)
    move_firm = go (found M (current c.cells) (seen ended c.rest)) refl
      where
        go : (o : Option Action) → found M (current c.cells) (seen ended c.rest) ≡ o → Firm (perform R M c o)
        go None e = tt
        go (Some (Shift t)) e = shift_firm t e
        go (Some (Reduce p)) e = reduce_firm p e
        go (Some Accept) e = accept_firm e
        go (Some Reject) e = tt

pub never_slips : (V : Type 0) → NeverSlips V
never_slips V states M safely R ended n w c e k h =
    subst Firm h (move_firm M safely R ended c (moves_hinted M safely R ended n w c e))
