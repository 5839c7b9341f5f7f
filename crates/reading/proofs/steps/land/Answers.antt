use Rattle.std.proofs.Common.{true, false, refl}
use Rattle.reading.proofs.Landings.{landing_is}
use Rattle.reading.proofs.steps.land.Goals as goal

pub returns-then-not-carries-clause-answer : goal.returns-then-not-carries-clause-answer
returns-then-not-carries-clause-answer g c =
    landing_is (g.T.Table.meaning c.args.table.now) c.args.production c.args.cells.now c.in-Some.rule
    false _ _ c.in-Some.ensures c.from-count.ensures c.if-cells-count.false
    c.split_at.ensures.front c.split_at.ensures.back c.if-not-carries.ensures refl refl

pub returns-in_default-goto-clause-answer : goal.returns-in_default-goto-clause-answer
returns-in_default-goto-clause-answer g c =
    landing_is (g.T.Table.meaning c.args.table.now) c.args.production c.args.cells.now c.in-Some.rule
    true _ _ c.in-Some.ensures c.from-count.ensures c.if-cells-count.false
    c.split_at.ensures.front c.split_at.ensures.back c.if-not-carries.ensures c.last_of.ensures c.in_default-goto.ensures

pub returns-clause-answer : goal.returns-clause-answer
returns-clause-answer g c =
    landing_is (g.T.Table.meaning c.args.table.now) c.args.production c.args.cells.now c.in-Some.rule
    true _ _ c.in-Some.ensures c.from-count.ensures c.if-cells-count.false
    c.split_at.ensures.front c.split_at.ensures.back c.if-not-carries.ensures c.last_of.ensures c.in-Some-goto.ensures
