use Rattle.reading.proofs.Making.{checked_of}
use Rattle.drive.proofs.drive_checked.Goals as goal

pub returns-clause-promise : goal.returns-clause-promise
returns-clause-promise g c =
    checked_of g.T.Table g.S.Source g.K.Sink c.args.table c.args.source c.args.sink c.args.calls.now c.validity.ensures
