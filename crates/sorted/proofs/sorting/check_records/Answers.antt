use Rattle.std.proofs.Common.{sym, refl, ◌∙◌, arith}
use Rattle.layout.specs.Records.{count}
use Rattle.wellformed.proofs.Firsts.{first_more}
use Rattle.wellformed.proofs.Tests.{some_or, none_or}
use Rattle.wellformed.proofs.Loops.{first_start, unless_fails, unless_passes, refuses_at}
use Rattle.sorted.proofs.Chunks.{order_is, range_is, before_next}
use Rattle.sorted.proofs.sorting.check_records.Goals as goal

pub loop-i-init : goal.loop-i-init
loop-i-init c = record { clean = first_start _; before = refl }

pub overflow_cast-result : goal.overflow_cast-result
unfolding count
overflow_cast-result c = omega (arith, c.rows_of-rows.ensures.count)

pub returns-then-not-rises : goal.returns-then-not-rises
returns-then-not-rises c =
    let rows = c.rows_of-rows in
    let order =
    order_is c.args.bytes.now c.loop-i.i _ _ c.from-record.ensures rows.ensures.rows (omega arith) _ _ _ c.rises.ensures
    c.loop-i.invariant.before c.key.ensures
    in
    refuses_at _ _ _ _ c.loop-i.invariant.clean (some_or _ _ _ (unless_fails _ (sym order ∙ c.if-not-rises.true)))
    (omega (arith, rows.ensures.count))

pub overflow_cast-result-then-not-in_range : goal.overflow_cast-result-then-not-in_range
unfolding count
overflow_cast-result-then-not-in_range c = omega (arith, c.rows_of-rows.ensures.count)

pub returns-then-not-in_range : goal.returns-then-not-in_range
returns-then-not-in_range c =
    let rows = c.rows_of-rows in
    let order =
    order_is c.args.bytes.now c.loop-i.i _ _ c.from-record.ensures rows.ensures.rows (omega arith) _ _ _ c.rises.ensures
    c.loop-i.invariant.before c.key.ensures
    in
    let range =
    range_is c.args.bytes.now c.loop-i.i _ _ c.from-record.ensures rows.ensures.rows (omega arith) _ c.in_range.ensures
    in
    refuses_at _ _ _ _ c.loop-i.invariant.clean
    (none_or _ _ (unless_passes _ (sym order ∙ c.if-not-rises.false)) ∙ unless_fails _ (sym range ∙ c.if-not-in_range.true))
    (omega (arith, rows.ensures.count))

pub loop-i-preserved : goal.loop-i-preserved
loop-i-preserved c =
    let rows = c.rows_of-rows in
    let order =
    order_is c.args.bytes.now c.loop-i.i _ _ c.from-record.ensures rows.ensures.rows (omega arith) _ _ _ c.rises.ensures
    c.loop-i.invariant.before c.key.ensures
    in
    let range =
    range_is c.args.bytes.now c.loop-i.i _ _ c.from-record.ensures rows.ensures.rows (omega arith) _ c.in_range.ensures
    in
    record {
      clean = first_more _ _ c.loop-i.invariant.clean
          (none_or _ _ (unless_passes _ (sym order ∙ c.if-not-rises.false)) ∙ unless_passes _ (sym range ∙ c.if-not-in_range.false));
      before = before_next c.args.bytes.now c.loop-i.i _ _ c.from-record.ensures rows.ensures.rows (omega arith) _ c.key-in-loop-i.ensures;
    }
