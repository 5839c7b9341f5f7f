use Rattle.std.proofs.Common.{cond, ap, ◌∙◌}
use lib.Bits.{bit_or}
use Rattle.layout.specs.Records.{sixteen, member}
use Rattle.completeness.specs.Items.{behind}
use Rattle.completeness.proofs.Rights.{wanted_holds}
use Rattle.completeness.proofs.moves.Step.wanted.Goals as goal

pub returns : goal.returns
returns g c =
    let x = c.args.self.now.item in
    let t = c.args.self.now.table.now in
    let begins = c.beginning_from-behind in
    let f = begins.result.firsts in
    let passed = c.passed_on.ensures ∙ ap (λ b. cond b x.looks 0) begins.ensures.nullable in
    let holds = wanted_holds (g.T.Hinted.hints t) (behind (g.T.Table.meaning t).grammar x) _ f x.looks
    begins.ensures.firsts c.args.self.now.has_looks
    in
    λ a. ap (λ m. member sixteen (bit_or f m) a) passed ∙ holds a
