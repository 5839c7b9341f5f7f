use Rattle.std.proofs.Common.{arith}
use Rattle.completeness.specs.Items.{looks_of}
use Rattle.completeness.proofs.Bits.{subset_is}
use Rattle.completeness.proofs.moves.Step.goes_on.Goals as goal

pub returns : goal.returns
returns g c =
    let x = c.args.self.now.item in
    let t = c.args.self.now.table.now in
    let few = (g.T.Hinted.bounded t).look_aheads_fit x.state x.production x.dot in
    subset_is x.looks (looks_of (g.T.Hinted.hints t) x) (omega arith) few c.args.self.now.has_looks
    c.next_looks.result _ c.next_looks.ensures
