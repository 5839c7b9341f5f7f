use Rattle.std.proofs.Common.{◌∙◌}
use Rattle.syntax.specs.Grammar.{terminals}
use Rattle.layout.specs.Checking.{subset}
use Rattle.layout.specs.CompletenessTests.{each_rule}
use Rattle.completeness.proofs.Items.{wanted_few}
use Rattle.completeness.proofs.moves.Step.is_closed.Goals as goal

pub first_items_have-requires : goal.first_items_have-requires
first_items_have-requires g c =
    let t = c.args.self.now.table.now in
    wanted_few (g.T.Table.meaning t) (g.T.Table.lawful t) (g.T.Hinted.hints t) (g.T.Hinted.bounded t)
    c.args.self.now.item c.wanted.result c.wanted.ensures

pub returns : goal.returns
returns g c =
    let t = c.args.self.now.table.now in
    let G = (g.T.Table.meaning t).grammar in
    let looks = (g.T.Hinted.hints t).look_aheads in
    let s = c.args.self.now.item.state in
    let n = c.args.n in
    c.first_items_have.ensures
    ∙ (λ i. each_rule G n (λ q. subset terminals (λ a. c.wanted.ensures a i) (looks s q 0)))
