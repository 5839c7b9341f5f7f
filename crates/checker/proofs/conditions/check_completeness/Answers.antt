use Rattle.std.proofs.Common.{◌≡◌, ◌+◌, true, false, Err, sym, refl, ap, ◌∙◌, arith}
use Rattle.layout.specs.declared.Refusal.TheVariants.{Incomplete}
use Rattle.layout.specs.Records.{count}
use Rattle.layout.specs.Checking.{initial_item, incomplete_refused}
use Rattle.wellformed.proofs.Firsts.{first_more}
use Rattle.wellformed.proofs.Loops.{unless_fails, unless_passes, refuses_at, refuses_nothing}
use Rattle.naming.proofs.Rows.{passed, refused_first}
use Rattle.sheet.specs.Contents.{sheet_in, contents}
use Rattle.checker.proofs.Steps.{few, complete, complete_here, initial_here}
use Rattle.checker.proofs.conditions.check_completeness.Goals as goal

pub overflow_cast-result : goal.overflow_cast-result
overflow_cast-result c =
    omega (arith, few (contents c.args.raw.now) c.args.raw.now.opens, c.in-Some.ensures.0)

pub returns-in-Some : goal.returns-in-Some
returns-in-Some c =
    let sh = sheet_in c.args.raw.now in
    refused_first sh (complete sh) (incomplete_refused sh) Incomplete (complete_here sh) (count sh + 1) (omega arith) _
    c.in-Some.ensures

pub returns-in-None : goal.returns-in-None
returns-in-None c =
    let sh = sheet_in c.args.raw.now in
    let each = passed sh (complete sh) (incomplete_refused sh) Incomplete (complete_here sh) (count sh) (omega arith) c.in-None.ensures in
    let there : initial_item sh ≡ true = sym c.initial_item_is_there.ensures ∙ c.if-initial_item_is_there.true in
    let clean = first_more (incomplete_refused sh) (count sh) each (initial_here sh ∙ unless_passes _ there) in
    refuses_nothing (incomplete_refused sh) (count sh + 1) (count sh + 1) clean refl

pub overflow_cast-result-in-None-2 : goal.overflow_cast-result-in-None-2
overflow_cast-result-in-None-2 c =
    omega (arith, few (contents c.args.raw.now) c.args.raw.now.opens, c.records.ensures)

pub returns-in-None-2 : goal.returns-in-None-2
returns-in-None-2 c =
    let sh = sheet_in c.args.raw.now in
    let each = passed sh (complete sh) (incomplete_refused sh) Incomplete (complete_here sh) (count sh) (omega arith) c.in-None-2.ensures in
    let missing : initial_item sh ≡ false = sym c.initial_item_is_there.ensures ∙ c.if-initial_item_is_there.false in
    let refused =
    refuses_at (incomplete_refused sh) (count sh + 1) (count sh) (Incomplete (count sh)) each
    (initial_here sh ∙ unless_fails _ missing) (omega arith)
    in
    ap Err (ap Incomplete c.records.ensures) ∙ refused
