use Rattle.safety.proofs.Depths.{first_passes, first_fails}
use Rattle.safety.proofs.initial_below.Goals as goal

pub returns-then-is_some_and : goal.returns-then-is_some_and
returns-then-is_some_and g c =
    let M = g.T.Table.meaning c.args.table.now in
    let H = g.T.Hinted.hints c.args.table.now in
    first_passes M H (H.past_sets c.args.s) _ _ _ c.is_none.result c.past_set.ensures
    c.past_set-then-is_some_and.ensures c.is_some_and.ensures c.if-is_some_and.true c.is_none.ensures

pub returns-else-is_some_and : goal.returns-else-is_some_and
returns-else-is_some_and g c =
    let M = g.T.Table.meaning c.args.table.now in
    let H = g.T.Hinted.hints c.args.table.now in
    first_fails M H (H.past_sets c.args.s) _ _ c.past_set.ensures c.is_some_and.ensures c.if-is_some_and.false
