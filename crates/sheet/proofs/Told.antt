-- What the passes of an opening tell, one behind the other.
use Rattle.std.proofs.Common.{◌≡◌, ℕ, List, Some, None, Ok, Err, Option, ◌∙◌, subst}
use Rattle.layout.specs.declared.Refusal.{Refusal}
use Rattle.layout.specs.Refusals.{answered}
use Rattle.layout.specs.Choices.{or_else}
use Rattle.layout.specs.Records.{Sheet, sheet}
use Rattle.layout.specs.Opening.{names_found, sense_found, sorting_passes, naming_passes, sorting, opening}
use Rattle.wellformed.proofs.Tests.{none_or, some_or}
use Rattle.wellformed.proofs.Told.{ok_none, err_some, or_itself, told_append}

-- a row tells what its first part refuses, and where that refuses nothing what the rest tells
pub first_told : {x : Refusal} (o rest : Option Refusal) → Err x ≡ answered o → or_else o rest ≡ Some x
first_told o rest e = some_or o rest _ (err_some o _ e)

pub rest_told : {q : Option Refusal} (o rest : Option Refusal) → Ok tt ≡ answered o → rest ≡ q → or_else o rest ≡ q
rest_told o rest e h = none_or o rest (ok_none o e) ∙ h

abbrev named : Sheet → Option Refusal
named sh = or_else (names_found sh) (or_else (sense_found sh) None)

opening_is : (sh : Sheet) → opening sh ≡ or_else (sorting sh) (named sh)
unfolding opening sorting
opening_is sh = told_append (sorting_passes sh) (naming_passes sh)

to_opening : (sh : Sheet) {o : Option Refusal} → or_else (sorting sh) (named sh) ≡ o → opening sh ≡ o
to_opening sh e = opening_is sh ∙ e

pub sorting_told : (sh : Sheet) {x : Refusal} → sorting sh ≡ Some x → opening sh ≡ Some x
sorting_told sh e = to_opening sh (some_or (sorting sh) (named sh) _ e)

-- the passes over names go over what was sorted, and that is what was given
module _ (bs kept : List ℕ) (same : kept ≡ bs) (sorted : sorting (sheet bs) ≡ None) where
  pub names_told : {x : Refusal} → Err x ≡ answered (names_found (sheet kept)) → opening (sheet bs) ≡ Some x
  names_told {x} e =
      let here = subst (λ l. Err x ≡ answered (names_found (sheet l))) same e in
      to_opening (sheet bs) (none_or (sorting (sheet bs)) _ sorted ∙ first_told (names_found (sheet bs)) _ here)

  module _ (names : Ok tt ≡ answered (names_found (sheet kept))) where
    rest_of : {o : Option Refusal} → sense_found (sheet kept) ≡ o → opening (sheet bs) ≡ o
    rest_of {o} e =
        let named = subst (λ l. Ok tt ≡ answered (names_found (sheet l))) same names in
        let here = subst (λ l. sense_found (sheet l) ≡ o) same e in
        to_opening (sheet bs)
        (none_or (sorting (sheet bs)) _ sorted
        ∙ rest_told (names_found (sheet bs)) _ named (or_itself (sense_found (sheet bs)) ∙ here))

    pub sense_told : {x : Refusal} → Err x ≡ answered (sense_found (sheet kept)) → opening (sheet bs) ≡ Some x
    sense_told e = rest_of (err_some _ _ e)

    pub nothing_told : Ok tt ≡ answered (sense_found (sheet kept)) → opening (sheet bs) ≡ None
    nothing_told e = rest_of (ok_none _ e)
