use Rattle.std.proofs.Common.{◌∙◌}
use Rattle.safety.proofs.Depths.{go_found, go_absent}
use Rattle.safety.proofs.all_below_go.Goals as goal

pub returns-in-None : goal.returns-in-None
returns-in-None g c =
    let M = g.T.Table.meaning c.args.table.now in
    let H = g.T.Hinted.hints c.args.table.now in
    go_absent M H c.args.s c.args.n c.args.depth c.in-None.ensures

pub returns-in-Some : goal.returns-in-Some
returns-in-Some g c =
    let M = g.T.Table.meaning c.args.table.now in
    let H = g.T.Hinted.hints c.args.table.now in
    let found = go_found M H c.args.s c.args.n c.args.depth c.in-Some.set c.in-Some.ensures in
    c.all_go.ensures ∙ found
