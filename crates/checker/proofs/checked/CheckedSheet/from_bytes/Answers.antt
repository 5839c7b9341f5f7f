use Rattle.std.proofs.Common.{◌≡◌, ℕ, false, List, is_some, sym, ap, subst}
use Rattle.std.proofs.lemmas.Result.{err_from_is_err_and}
use Rattle.layout.specs.Records.{sheet}
use Rattle.layout.specs.Checking.{verdict}
use Rattle.checker.proofs.Judged.{opening_told, unsafe_told, incomplete_told, nothing_told, refused, passed}
use Rattle.checker.proofs.checked.CheckedSheet.from_bytes.Goals as goal

pub returns-in_err-raw : goal.returns-in_err-raw
returns-in_err-raw c =
    let p = err_from_is_err_and c.from_residual.result c.from_residual.ensures.1 in
    let fails = opening_told _ c.in_err-raw.ensures.err in
    let (exact, told) = refused c.args.bytes.now fails in
    rw (p.1, p.2) record { ok = tt; err = fails; exact = exact; told = told }

pub returns-in_err-check_safety : goal.returns-in_err-check_safety
returns-in_err-check_safety c =
    let left = c.from_residual-in_err-check_safety in
    let p = err_from_is_err_and left.result left.ensures.1 in
    let (opens, same) = c.in_ok-raw.ensures.ok in
    let fails = unsafe_told _ _ same opens c.in_err-check_safety.ensures in
    let (exact, told) = refused c.args.bytes.now fails in
    rw (p.1, p.2) record { ok = tt; err = fails; exact = exact; told = told }

pub returns-in_err-check_completeness : goal.returns-in_err-check_completeness
returns-in_err-check_completeness c =
    let left = c.from_residual-in_err-check_completeness in
    let p = err_from_is_err_and left.result left.ensures.1 in
    let (opens, same) = c.in_ok-raw.ensures.ok in
    let fails = incomplete_told _ _ same opens c.in_ok-check_safety.ensures c.in_err-check_completeness.ensures in
    let (exact, told) = refused c.args.bytes.now fails in
    rw (p.1, p.2) record { ok = tt; err = fails; exact = exact; told = told }

pub invariant_of-result : goal.invariant_of-result
invariant_of-result c =
    let (opens, same) = c.in_ok-raw.ensures.ok in
    let nothing = nothing_told _ _ same opens c.in_ok-check_safety.ensures c.in_ok-check_completeness.ensures in
    let checked = ap is_some nothing in
    record { checked = subst (λ (bs : List ℕ). is_some (verdict (sheet bs)) ≡ false) (sym same) checked }

pub returns : goal.returns
returns c =
    let (opens, same) = c.in_ok-raw.ensures.ok in
    let nothing = nothing_told _ _ same opens c.in_ok-check_safety.ensures c.in_ok-check_completeness.ensures in
    let (exact, told) = passed c.args.bytes.now nothing in
    record { ok = (nothing, same); err = tt; exact = exact; told = told }
