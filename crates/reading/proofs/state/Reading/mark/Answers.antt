use Rattle.std.proofs.Common.{refl}
use Rattle.outcome.specs.declared.Call.TheVariants.{Mark}
use Rattle.reading.proofs.Making.{told_so, checked}
use Rattle.reading.proofs.state.Reading.mark.Goals as goal

pub returns-then-not-has_ended-clause-made : goal.returns-then-not-has_ended-clause-made
returns-then-not-has_ended-clause-made g c =
    told_so g.T.Table g.S.Source g.K.Sink Mark c.args.self.now (λ _. refl)

pub returns-then-not-has_ended-clause-promise : goal.returns-then-not-has_ended-clause-promise
returns-then-not-has_ended-clause-promise g c =
    checked g.T.Table g.S.Source g.K.Sink c.args.self.now c.validity.ensures

pub returns-clause-made : goal.returns-clause-made
returns-clause-made g c = told_so g.T.Table g.S.Source g.K.Sink Mark c.args.self.now (λ _. refl)

pub returns-clause-promise : goal.returns-clause-promise
returns-clause-promise g c = checked g.T.Table g.S.Source g.K.Sink c.args.self.now c.validity.ensures
