use Rattle.reading.proofs.Making.{finished}
use Rattle.reading.proofs.state.Reading.finish.Goals as goal

pub returns-clause-promise : goal.returns-clause-promise
returns-clause-promise g c = finished g.T.Table g.S.Source g.K.Sink c.args.self
