use Rattle.std.proofs.Common.{refl}
use Rattle.outcome.specs.declared.Call.TheVariants.{Report as Tell}
use Rattle.reading.proofs.Making.{told_so, kept}
use Rattle.reading.proofs.state.Reading.report.Goals as goal

pub returns-clause-made : goal.returns-clause-made
returns-clause-made g c = told_so g.T.Table g.S.Source g.K.Sink Tell c.args.self.now (λ _. refl)

pub returns-clause-promise : goal.returns-clause-promise
returns-clause-promise g c = kept g.T.Table g.S.Source g.K.Sink c.args.self.now
