-- What a plan leaves on a stack of totals.
use Rattle.std.specs.Prelude.{◌≡◌, ℕ, List, [], ◌∷◌, length, Ok, Err, Result}
use Rattle.table.specs.Automaton.{Automaton}
use Rattle.sink.specs.Stacks.{endless, limited}
use Rattle.measure.specs.declared.Measure as measures
use Rattle.measure.specs.Joins.{joining, over_leaves}
use Rattle.totals.specs.Meaning.{Begins}
use Rattle.outcome.specs.declared.Outcome.TheVariants.{Accepted}
use Rattle.outcome.specs.declared.Call.{Call}
use Rattle.outcome.specs.declared.Report.{Report}
use Rattle.machine.specs.Calls.{report as told}
use Rattle.machine.specs.Runs.{Run, after}
use Rattle.pile.specs.declared.PileRefusal.{PileRefusal}
use Rattle.pile.specs.declared.Plan.{Plan}
use Rattle.pile.specs.Piles.{plan_stream, plan_answer}

module _ {V : Type 0} (m : measures.Ghosts V) (M : Automaton) (plan : Plan) where
  -- the run of the calls on the tokens of the plan, into new totals in so many places
  abbrev pub totals_run : ℕ → List Call → Run V
  totals_run n calls = record {
    table = M;
    stream = plan_stream plan;
    stack = record { list = []; records = endless; cells = limited n };
    calls = calls;
  }

  -- the machine's report, and the machine's list at the front of the places; accepted, it is the join over the tokens
  pub record MeasuredAs (n : ℕ) (calls : List Call) (answer : Result Report PileRefusal) (new : List V) : Type 0 where
    pub told_is : answer ≡ Ok (told (after (joining m) (totals_run n calls)))
    pub list_is : Begins new (after (joining m) (totals_run n calls)).stack.list
    pub total_is : (after (joining m) (totals_run n calls)).outcome ≡ Accepted →
        Begins new (over_leaves m (plan_stream plan).tokens ∷ [])

  abbrev pub measures_as : Result (Unit {0}) PileRefusal → List V → List Call → Result Report PileRefusal → List V → Type 0
  measures_as (Ok u) old calls answer new = MeasuredAs (length old) calls answer new
  measures_as (Err e) old calls answer new = (answer ≡ Err e) × (new ≡ old)

  -- or a refusal, and no place changed
  abbrev pub Measures : List V → List Call → Result Report PileRefusal → List V → Type 0
  Measures = measures_as (plan_answer plan)
