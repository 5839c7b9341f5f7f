use Rattle.std.proofs.Common.{ℕ, rules, tests, ◌∙◌, refl}
use Rattle.std.proofs.lemmas.Iterator.{YieldsList-from_range}
use Rattle.std.proofs.lemmas.Iterator.Consumers.{YieldsList-from_filter}
use Rattle.std.proofs.lemmas.Iterator.Search.{all_from_yields_List}
use Rattle.syntax.specs.Grammar.{terminals}
use Rattle.layout.specs.Choices.{implies, below}
use Rattle.layout.specs.Records.{sixteen, member}
use Rattle.layout.specs.Checking.{reduces_by}
use Rattle.hinted.proofs.Ranges.{all_filtered}
use Rattle.completeness.proofs.ends.End.actions_reduce.Goals as goal

pub returns : goal.returns
returns g c =
    let x = c.args.self.now.item in
    let M = g.T.Table.meaning c.args.self.now.table.now in
    let has = member sixteen x.looks in
    let red = λ (a : ℕ). reduces_by x.production (M.action x.state a) in
    all_from_yields_List red _ _ _ c.all.ensures.ran
    (YieldsList-from_filter _ has (YieldsList-from_range 0 terminals terminals c.filter.ensures.source refl)
    c.filter.ensures.closure (λ a b q k. search (rules, tests)))
    (λ a b q k. search (rules, tests))
    ∙ all_filtered terminals has red
    ∙ (λ i. below terminals (λ a. implies (c.args.self.now.has_looks a i) (red a)))
