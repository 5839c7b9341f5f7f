use Rattle.std.proofs.Common.{sym, refl}
use Rattle.outcome.specs.declared.Call.TheVariants.{Stop}
use Rattle.reading.specs.Means.{reads}
use Rattle.reading.proofs.Making.{stop_over, stop_taken, made, declined_so}
use Rattle.reading.proofs.state.Reading.stop.Goals as goal

pub returns-then-has_ended-clause-made : goal.returns-then-has_ended-clause-made
returns-then-has_ended-clause-made g c =
    let r = c.args.self.now in
    let e = reads g.T.Table g.S.Source g.K.Sink r in
    declined_so g.T.Table g.S.Source g.K.Sink Stop r _ (stop_over e (sym c.if-has_ended.ensures))

pub returns-clause-made : goal.returns-clause-made
returns-clause-made g c =
    let r = c.args.self.now in
    let e = reads g.T.Table g.S.Source g.K.Sink r in
    made g.T.Table g.S.Source g.K.Sink Stop r _ (stop_taken e (sym c.if-has_ended.ensures)) refl refl
    (g.K.Sink.still r.sink)
