use Rattle.plans.proofs.Checking.{checked_from}
use Rattle.plans.proofs.read_plan_checked.Goals as goal

pub returns-clause-promise : goal.returns-clause-promise
returns-clause-promise g c =
    λ opens. checked_from g.K.Sink.algebra _ c.validity.ensures (c.read_plan.ensures.promise opens)
