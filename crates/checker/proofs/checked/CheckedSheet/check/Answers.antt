use Rattle.std.proofs.Common.{◌≡◌, Ok, sym, ap}
use Rattle.std.proofs.lemmas.Result.{err_from_is_err_and}
use Rattle.layout.specs.Refusals.{answered, held}
use Rattle.layout.specs.Records.{sheet}
use Rattle.layout.specs.Checking.{verdict}
use Rattle.wellformed.proofs.Told.{refused_answer}
use Rattle.checker.specs.Contents.{contents}
use Rattle.checker.proofs.Judged.{exact_answer, told_answer}
use Rattle.checker.proofs.checked.CheckedSheet.check.Goals as goal

pub returns-in_err-place : goal.returns-in_err-place
returns-in_err-place c =
    let p = err_from_is_err_and c.from_residual.result c.from_residual.ensures.1 in
    let old = contents c.args.place.now in
    let told : c.from_residual.result ≡ answered (verdict (sheet c.args.bytes.now)) =
    rw (p.1, p.2) (refused_answer c.in_err-place.ensures.err)
    in
    record {
      answer = told;
      place = sym (ap (λ r. held r c.args.bytes.now old) p.1);
      exact = exact_answer _ _ told;
      told = told_answer _ _ told;
    }

pub returns : goal.returns
returns c =
    let (nothing, same) = c.in_ok-place.ensures.ok in
    let told : Ok tt ≡ answered (verdict (sheet c.args.bytes.now)) = sym (ap answered nothing) in
    record { answer = told; place = same; exact = exact_answer _ _ told; told = told_answer _ _ told }
