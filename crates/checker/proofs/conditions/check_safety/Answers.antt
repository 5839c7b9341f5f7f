use Rattle.std.proofs.Common.{sym, refl, ap, arith}
use Rattle.layout.specs.declared.Refusal.TheVariants.{Unsafe}
use Rattle.layout.specs.Refusals.{answered}
use Rattle.layout.specs.Records.{count}
use Rattle.layout.specs.Checking.{unsafe_refused}
use Rattle.naming.proofs.Rows.{passed, refused_first}
use Rattle.sheet.specs.Contents.{sheet_in, contents}
use Rattle.checker.proofs.Steps.{few, safe}
use Rattle.checker.proofs.conditions.check_safety.Goals as goal

pub overflow_cast-result : goal.overflow_cast-result
overflow_cast-result c =
    omega (arith, few (contents c.args.raw.now) c.args.raw.now.opens, c.in-Some.ensures.0)

pub returns-in-Some : goal.returns-in-Some
returns-in-Some c =
    let sh = sheet_in c.args.raw.now in
    refused_first sh (safe sh) (unsafe_refused sh) Unsafe (λ k lt. refl) (count sh) (omega arith) _ c.in-Some.ensures

pub returns-in-None : goal.returns-in-None
returns-in-None c =
    let sh = sheet_in c.args.raw.now in
    let clean = passed sh (safe sh) (unsafe_refused sh) Unsafe (λ k lt. refl) (count sh) (omega arith) c.in-None.ensures in
    sym (ap answered clean)
