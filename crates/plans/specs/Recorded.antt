-- What a plan leaves in the bytes of a trace.
use Rattle.std.specs.Prelude.{◌≡◌, ℕ, List, [], ◌∷◌, Ok, Err, Result}
use Rattle.syntax.specs.Trees.{Tree, TreeOf, size}
use Rattle.syntax.specs.Values.{read}
use Rattle.table.specs.Automaton.{Automaton}
use Rattle.trace.specs.Records.{postfix}
use Rattle.trace.specs.Grown.{overlaid}
use Rattle.replay.specs.Recorded.{blank}
use Rattle.outcome.specs.declared.Outcome.TheVariants.{Accepted}
use Rattle.outcome.specs.declared.Call.{Call}
use Rattle.outcome.specs.declared.Report.{Report}
use Rattle.machine.specs.Calls.{report as told}
use Rattle.machine.specs.Runs.{Run, after}
use Rattle.pile.specs.declared.PileRefusal.{PileRefusal}
use Rattle.pile.specs.declared.Plan.{Plan}
use Rattle.pile.specs.Piles.{plan_stream, plan_answer}

module _ (M : Automaton) (plan : Plan) where
  -- the run of the calls on the tokens of the plan, into a new trace in these bytes under a quota
  abbrev pub trace_run : ℕ → List ℕ → List Call → Run (List ℕ)
  trace_run quota bytes calls = record {
    table = M;
    stream = plan_stream plan;
    stack = blank quota bytes;
    calls = calls;
  }

  abbrev traces_as : Result (Unit {0}) PileRefusal → ℕ → List ℕ → List Call → Result Report PileRefusal → List ℕ →
      Type 0
  traces_as (Ok u) quota old calls answer new =
      let end = after postfix (trace_run quota old calls) in
      (answer ≡ Ok (told end)) × (new ≡ overlaid old end.stack.list)
  traces_as (Err e) quota old calls answer new = (answer ≡ Err e) × (new ≡ old)

  -- the machine's report, and the records of the machine's list laid over the bytes; or a refusal, and no byte changed
  abbrev pub Traces : ℕ → List ℕ → List Call → Result Report PileRefusal → List ℕ → Type 0
  Traces = traces_as (plan_answer plan)

  -- the bytes begin with the records of one tree of the plan, of so many leaves and nodes; behind them nothing changed
  pub record TreeRecorded (old : List ℕ) (steps : ℕ) (new : List ℕ) : Type 0 where
    pub tree : Tree
    pub of_plan : TreeOf M.grammar (plan_stream plan).tokens tree
    pub records_are : new ≡ overlaid old (read postfix tree ∷ [])
    pub steps_are : steps ≡ size tree

  -- so it is after accepted
  abbrev pub RecordsTree : List ℕ → Result Report PileRefusal → List ℕ → Type 0
  RecordsTree old answer new = (report : Report) → answer ≡ Ok report → report.outcome ≡ Accepted →
      TreeRecorded old report.steps new
