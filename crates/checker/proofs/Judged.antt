-- What the answers of the passes say together.
use Rattle.std.proofs.Common.{◌≡◌, ℕ, List, Some, None, Ok, Err, Option, Result, sym, ap, ◌∙◌, subst}
use Rattle.layout.specs.declared.Refusal.{Refusal}
use Rattle.layout.specs.Refusals.{answered}
use Rattle.layout.specs.Choices.{or_else}
use Rattle.layout.specs.Records.{Sheet, sheet}
use Rattle.layout.specs.Opening.{opening_passes, opening}
use Rattle.layout.specs.Checking.{checking_passes, verdict}
use Rattle.wellformed.proofs.Tests.{none_or, some_or}
use Rattle.wellformed.proofs.Told.{ok_none, err_some, or_itself, told_append, refused_answer}
use Rattle.sheet.proofs.Told.{first_told, rest_told}
use Rattle.exactness.proofs.Exact.{passes_exactly_the_valid}
use Rattle.exactness.proofs.Told.{verdict_tells_first}
use Rattle.checker.specs.Judged.{Exact, Told, unsafe_found, incomplete_found}

module _ (sh : Sheet) where
  abbrev conditions : Option Refusal
  conditions = or_else (unsafe_found sh) (or_else (incomplete_found sh) None)

  verdict_is : verdict sh ≡ or_else (opening sh) conditions
  unfolding verdict opening
  verdict_is = told_append (opening_passes sh) (checking_passes sh)

  pub opening_told : {x : Refusal} → opening sh ≡ Some x → verdict sh ≡ Some x
  opening_told e = verdict_is ∙ some_or (opening sh) conditions _ e

-- the conditions are tested of what was opened, and that is what was given
module _ (bs kept : List ℕ) (same : kept ≡ bs) (opens : opening (sheet bs) ≡ None) where
  to_verdict : {o : Option Refusal} → conditions (sheet bs) ≡ o → verdict (sheet bs) ≡ o
  to_verdict e = verdict_is (sheet bs) ∙ (none_or (opening (sheet bs)) (conditions (sheet bs)) opens ∙ e)

  pub unsafe_told : {x : Refusal} → Err x ≡ answered (unsafe_found (sheet kept)) → verdict (sheet bs) ≡ Some x
  unsafe_told {x} e =
      let here = subst (λ l. Err x ≡ answered (unsafe_found (sheet l))) same e in
      to_verdict (first_told (unsafe_found (sheet bs)) _ here)

  module _ (safe : Ok tt ≡ answered (unsafe_found (sheet kept))) where
    rest_of : {o : Option Refusal} → incomplete_found (sheet kept) ≡ o → verdict (sheet bs) ≡ o
    rest_of {o} e =
        let passed = subst (λ l. Ok tt ≡ answered (unsafe_found (sheet l))) same safe in
        let here = subst (λ l. incomplete_found (sheet l) ≡ o) same e in
        to_verdict (rest_told (unsafe_found (sheet bs)) _ passed (or_itself (incomplete_found (sheet bs)) ∙ here))

    pub incomplete_told : {x : Refusal} → Err x ≡ answered (incomplete_found (sheet kept)) → verdict (sheet bs) ≡ Some x
    incomplete_told e = rest_of (err_some _ _ e)

    pub nothing_told : Ok tt ≡ answered (incomplete_found (sheet kept)) → verdict (sheet bs) ≡ None
    nothing_told e = rest_of (ok_none _ e)

-- the answer in the terms of the conditions
module _ (bs : List ℕ) (r : Result (Unit {0}) Refusal) (h : r ≡ answered (verdict (sheet bs))) where
  pub exact_answer : Exact r bs
  exact_answer = (
    λ e. (passes_exactly_the_valid bs).0 (ok_none _ (sym e ∙ h)),
    λ m. h ∙ ap answered ((passes_exactly_the_valid bs).1 m),
  )

  pub told_answer : Told r bs
  told_answer x = (
    λ e. (verdict_tells_first (sheet bs) x).0 (err_some _ x (sym e ∙ h)),
    λ t. h ∙ ap answered ((verdict_tells_first (sheet bs) x).1 t),
  )

-- a sheet that fails a condition is refused, and one that fails none passes
module _ (bs : List ℕ) where
  pub refused : {x : Refusal} → verdict (sheet bs) ≡ Some x → Exact (Err x) bs × Told (Err x) bs
  refused e = (exact_answer bs _ (refused_answer e), told_answer bs _ (refused_answer e))

  pub passed : verdict (sheet bs) ≡ None → Exact (Ok tt) bs × Told (Ok tt) bs
  passed e = (exact_answer bs _ (sym (ap answered e)), told_answer bs _ (sym (ap answered e)))
