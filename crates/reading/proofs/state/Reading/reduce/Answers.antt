use Rattle.std.proofs.Common.{◌-◌, ◌<◌, length, Err, refl, ap, ap₂, ◌∙◌, arith}
use Rattle.std.proofs.lemmas.Result.{err_from_is_err_and}
use Rattle.machine.specs.Reading.{most_cells}
use Rattle.reading.specs.Means.{reads}
use Rattle.reading.specs.Steps.{counted, landing_by}
use Rattle.reading.proofs.Landings.{node_refused}
use Rattle.reading.proofs.state.Reading.reduce.Goals as goal

pub returns-in_err-node-clause-after : goal.returns-in_err-node-clause-after
returns-in_err-node-clause-after g c =
    let r = c.args.self.now in
    let e = reads g.T.Table g.S.Source g.K.Sink r in
    let l = c.in_ok-landing.landing in
    let (h, is, same) = err_from_is_err_and c.from_residual-in_err-node.result c.from_residual-in_err-node.ensures.1 in
    let room : length r.cells.items - l.children < most_cells =
    omega (arith, c.len.ensures.value, c.len.ensures.fits, c.from.ensures) in
    ap₂ (λ x k. counted x (reads g.T.Table g.S.Source g.K.Sink (record {
      table = r.table;
      source = r.source;
      sink = k;
      cells = r.cells;
      steps = r.steps;
      outcome = r.outcome;
    }))) (is ∙ ap Err same) (c.in_err-node.ensures.refused refl)
    ∙ node_refused g.K.Sink.algebra c.args.production e (e.table.grammar c.args.production) l
    (c.in_ok-landing.ensures.answer ∙ ap (landing_by e.table c.args.production) c.deref.ensures.0) room c.in_err-node.ensures.answer
