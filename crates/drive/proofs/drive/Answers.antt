use Rattle.outcome.specs.declared.Call.TheVariants.{Turn}
use Rattle.reading.proofs.Making.{kept_of}
use Rattle.drive.proofs.Driving.{goes_on}
use Rattle.drive.proofs.drive.Goals as goal

pub loop-call-preserved : goal.loop-call-preserved
loop-call-preserved g c =
    goes_on g.T.Table g.S.Source g.K.Sink c.new-reading.result c.args.calls.now c.loop-call.call-index
    (Turn 0) c.loop-call.reading c.make.new.reading c.loop-call-test.true c.loop-call.invariant
    c.make.ensures

pub returns-clause-promise : goal.returns-clause-promise
returns-clause-promise g c =
    kept_of g.T.Table g.S.Source g.K.Sink c.args.table c.args.source c.args.sink c.args.calls.now
