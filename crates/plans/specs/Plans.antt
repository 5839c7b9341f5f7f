-- What comes of a plan that is read from its bytes.
use Rattle.std.specs.Prelude.{◌≡◌, List, Ok, Err, Result}
use Rattle.table.specs.declared.Table as tables
use Rattle.sink.specs.declared.Sink as sinks
use Rattle.outcome.specs.declared.Call.{Call}
use Rattle.machine.specs.Calls.{report as told}
use Rattle.machine.specs.Runs.{Run, after}
use Rattle.pile.specs.declared.PileRefusal.{PileRefusal}
use Rattle.pile.specs.declared.Plan.{Plan}
use Rattle.pile.specs.Piles.{plan_stream, plan_answer}
use Rattle.plans.specs.declared.PlanRead.{PlanRead}

module _ {T K : Type 0} (table : tables.Ghosts T) (sink : sinks.Ghosts K)
    (t : T) (plan : Plan) (k : K) (calls : List Call) where
  -- the run of the calls on the tokens of the plan
  abbrev pub plan_run : Run sink.Value
  plan_run = record {
    table = table.meaning t;
    stream = plan_stream plan;
    stack = sink.meaning k;
    calls = calls;
  }

  -- the machine's report and the machine's list, in the memory of the sink
  pub record ReadBy (r : PlanRead K) : Type 0 where
    pub told_is : r.answer ≡ Ok (told (after sink.algebra plan_run))
    pub stack_is : sink.meaning r.sink ≡ (after sink.algebra plan_run).stack
    pub memory_kept : sink.grows k r.sink

  -- by what is refused of the plan: then the sink is the one that was given
  abbrev pub comes_of : Result (Unit {0}) PileRefusal → PlanRead K → Type 0
  comes_of (Ok u) r = ReadBy r
  comes_of (Err e) r = (r.answer ≡ Err e) × (r.sink ≡ k)

  -- what comes of the plan
  abbrev pub Comes : PlanRead K → Type 0
  Comes = comes_of (plan_answer plan)
