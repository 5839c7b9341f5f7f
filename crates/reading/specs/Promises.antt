-- What is promised of every reading, whatever it was made of and whatever was asked of it.
use Rattle.std.specs.Prelude.{◌≡◌, ℕ, ◌↔◌, List, Option, ◌≢◌}
use Rattle.syntax.specs.declared.Token.{Token}
use Rattle.syntax.specs.Trees.{Tree, TreeOf}
use Rattle.syntax.specs.Values.{Algebra}
use Rattle.table.specs.declared.Slip.{Slip as WhySlip}
use Rattle.table.specs.Lawful.{narrow}
use Rattle.table.specs.declared.Table as tables
use Rattle.source.specs.declared.Source as sources
use Rattle.sink.specs.declared.Sink as sinks
use Rattle.outcome.specs.declared.Halt.TheVariants.{Slip}
use Rattle.outcome.specs.declared.Outcome.TheVariants.{Accepted, Rejected, Halted}
use Rattle.outcome.specs.declared.Call.{Call}
use Rattle.machine.specs.Reading.{State}
use Rattle.machine.specs.Runs.{Run, after}
use Rattle.machine.specs.Promise.{ReadWhole, Hopeless, FittingTree, Promised, Bounded}
use Rattle.reading.specs.declared.state.Reading.{Reading}
use Rattle.reading.specs.Means.{run_of, Reaches}

module _ {V : Type 0} (R : Algebra V) (run : Run V) where
  -- on every table: the promise of runs, and what a run never exceeds or changes
  pub record Kept : Type 0 where
    pub promised : Promised narrow R run
    pub bounded : Bounded run (after R run)

  -- on a checked table: the same, without a hypothesis
  pub record Checked : Type 0 where
    pub accepts_trees : (after R run).outcome ≡ Accepted → ReadWhole R run (after R run)
    pub one_tree : (w : List Token) (t u : Tree) →
        TreeOf run.table.grammar w t → TreeOf run.table.grammar w u → t ≡ u
    pub accepts_what_fits : ((after R run).outcome ≡ Accepted) ↔ FittingTree run
    pub never_slips : (k : WhySlip) → (after R run).outcome ≢ Halted (Slip k)
    pub rejects_hopeless : (p : Option ℕ) → (after R run).outcome ≡ Rejected p → Hopeless run (after R run) p
    pub bounded : Bounded run (after R run)

module _ {T S K : Type 0} (table : tables.Ghosts T) (source : sources.Ghosts S) (sink : sinks.Ghosts K) where
  -- P holds of every run that leads to the reading, from any table, source and sink and by any calls
  abbrev pub OfRuns : (Run sink.Value → Type 0) → Reading T S K → Type 0
  OfRuns P r = (t : T) (s : S) (k : K) (calls : List Call) →
      Reaches table source sink (run_of table source sink t s k calls) r → P (run_of table source sink t s k calls)

  -- the parts mean what stands in the machine's state
  pub record Parts (t : T) (s : S) (k : K) (r : State sink.Value) : Type 0 where
    pub table_is : table.meaning t ≡ r.table
    pub stream_is : source.meaning s ≡ r.stream
    pub stack_is : sink.meaning k ≡ r.stack

  -- what is promised of a run whose parts are handed back
  pub record Finished (t : T) (s : S) (k : K) (run : Run sink.Value) : Type 0 where
    pub kept : Kept sink.algebra run
    pub parts : Parts t s k (after sink.algebra run)
