use Rattle.std.proofs.Common.{◌≡◌, ℕ, false, List, is_some, sym, ap, subst}
use Rattle.std.proofs.lemmas.Result.{err_from_is_err_and}
use Rattle.layout.specs.Records.{sheet}
use Rattle.layout.specs.Opening.{opening}
use Rattle.sheet.proofs.Told.{sorting_told, names_told, sense_told, nothing_told}
use Rattle.sheet.proofs.raw.RawSheet.from_bytes.Goals as goal

pub returns-in_err-sorted-clause-err : goal.returns-in_err-sorted-clause-err
returns-in_err-sorted-clause-err c =
    let p = err_from_is_err_and c.from_residual.result c.from_residual.ensures.1 in
    rw (p.1, p.2) (sorting_told _ c.in_err-sorted.ensures.answer)

pub returns-in_err-check_names-clause-err : goal.returns-in_err-check_names-clause-err
returns-in_err-check_names-clause-err c =
    let left = c.from_residual-in_err-check_names in
    let p = err_from_is_err_and left.result left.ensures.1 in
    let sorted = c.in_ok-sorted.ensures in
    rw (p.1, p.2) (names_told _ _ sorted.held sorted.answer c.in_err-check_names.ensures)

pub returns-in_err-check_sense-clause-err : goal.returns-in_err-check_sense-clause-err
returns-in_err-check_sense-clause-err c =
    let left = c.from_residual-in_err-check_sense in
    let p = err_from_is_err_and left.result left.ensures.1 in
    let sorted = c.in_ok-sorted.ensures in
    rw (p.1, p.2) (sense_told _ _ sorted.held sorted.answer c.in_ok-check_names.ensures c.in_err-check_sense.ensures)

pub invariant_of-result : goal.invariant_of-result
invariant_of-result c =
    let sorted = c.in_ok-sorted.ensures in
    let nothing = nothing_told _ _ sorted.held sorted.answer c.in_ok-check_names.ensures c.in_ok-check_sense.ensures in
    let opens = ap is_some nothing in
    record { opens = subst (λ (bs : List ℕ). is_some (opening (sheet bs)) ≡ false) (sym sorted.held) opens }

pub returns : goal.returns
returns c =
    let sorted = c.in_ok-sorted.ensures in
    let nothing = nothing_told _ _ sorted.held sorted.answer c.in_ok-check_names.ensures c.in_ok-check_sense.ensures in
    record { ok = (nothing, sorted.held); err = tt }
