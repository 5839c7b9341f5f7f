use Rattle.std.proofs.Common.{ap, subst}
use Rattle.pile.specs.Piles.{plan_answer}
use Rattle.plans.specs.Measured.{Measures}
use Rattle.plans.proofs.Measuring.{measured}
use Rattle.plans.proofs.measured.measure_plan.Goals as goal

pub returns : goal.returns
returns g c =
    let laws = g.met.M.Measure in
    let read = c.read_plan-read in
    let made = c.new.ensures in
    let back = c.finish.ensures in
    record {
      comes =
          subst
          (λ ps. Measures g.M.Measure (g.T.Table.meaning c.args.table) c.args.plan ps c.args.calls.now
          read.result.answer c.finish.result.now)
          (λ i. (made i).places.now)
          (measured g.T.Table g.M.Measure laws.associative laws.unit_left laws.unit_right
          c.args.table c.args.plan c.new.result
          c.args.calls.now (λ i. (made i).used) read.result c.finish.result.now
          back.list (plan_answer c.args.plan) (ap (λ p. p.now) back.places)
          read.ensures.comes read.ensures.promise);
    }
