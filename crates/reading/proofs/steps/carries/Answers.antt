use Rattle.std.proofs.Common.{◌∙◌, rules, tests}
use Rattle.std.proofs.lemmas.Iterator.{YieldsList-from_slice}
use Rattle.std.proofs.lemmas.Iterator.Consumers.{YieldsList-from_enumerate}
use Rattle.std.proofs.lemmas.Iterator.Search.{all_from_yields_List}
use Rattle.table.specs.Automaton.{symbol_at}
use Rattle.reading.specs.Steps.{is_entered}
use Rattle.reading.proofs.Cells.{carrying_all}
use Rattle.reading.proofs.steps.carries.Goals as goal

pub returns : goal.returns
returns g c =
    let M = g.T.Table.meaning c.args.table.now in
    let p = c.args.production in
    all_from_yields_List (λ x. is_entered (M.incoming x.1) (symbol_at (M.grammar p) x.0)) _ _ _ c.all.ensures.ran
    (YieldsList-from_enumerate (YieldsList-from_slice c.args.states.now (cc)) (cc))
    (λ x b q k. search (rules, tests))
    ∙ carrying_all M p 0 c.args.states.now
