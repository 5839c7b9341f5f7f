use Rattle.std.proofs.Common.{sym, refl, ap, arith}
use Rattle.layout.specs.declared.Refusal.TheVariants.{Contradiction}
use Rattle.layout.specs.Refusals.{answered}
use Rattle.layout.specs.Records.{count}
use Rattle.layout.specs.Opening.{makes_sense, sense_refused}
use Rattle.wellformed.proofs.Formed.{sorted_of, few_records}
use Rattle.sorted.specs.Contents.{sheet_in}
use Rattle.naming.proofs.Rows.{passed, refused_first}
use Rattle.naming.proofs.sense.check_sense.Goals as goal

pub overflow_cast-result : goal.overflow_cast-result
overflow_cast-result c =
    omega (arith, few_records _ (sorted_of _ c.args.sorted.now.sorted), c.in-Some.ensures.0)

pub returns-in-Some : goal.returns-in-Some
returns-in-Some c =
    let sh = sheet_in c.args.sorted.now in
    refused_first sh (makes_sense sh) (sense_refused sh) Contradiction (λ k lt. refl) (count sh) (omega arith) _ c.in-Some.ensures

pub returns-in-None : goal.returns-in-None
returns-in-None c =
    let sh = sheet_in c.args.sorted.now in
    let clean = passed sh (makes_sense sh) (sense_refused sh) Contradiction (λ k lt. refl) (count sh) (omega arith) c.in-None.ensures in
    sym (ap answered clean)
