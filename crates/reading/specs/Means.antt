-- What a reading stands for, by what its table, its source and its sink stand for.
use Rattle.std.specs.Prelude.{◌≡◌, List, Some}
use Rattle.table.specs.declared.Table as tables
use Rattle.source.specs.declared.Source as sources
use Rattle.sink.specs.declared.Sink as sinks
use Rattle.outcome.specs.declared.Call.{Call}
use Rattle.outcome.specs.declared.Declined.{Declined}
use Rattle.machine.specs.Reading.{State}
use Rattle.machine.specs.Calls.{called, declined}
use Rattle.machine.specs.Runs.{Run, after, then_call}
use Rattle.reading.specs.declared.state.Reading.{Reading}

module _ {T S K : Type 0} (table : tables.Ghosts T) (source : sources.Ghosts S) (sink : sinks.Ghosts K) where
  -- the state of the machine: the meanings of the parts, the cells, the steps and the outcome
  abbrev pub reads : Reading T S K → State sink.Value
  reads r = record {
    table = table.meaning r.table;
    cells = r.cells.items;
    stack = sink.meaning r.sink;
    stream = source.meaning r.source;
    steps = r.steps;
    outcome = r.outcome;
  }

  -- the run of these calls on a reading that was made of these parts
  abbrev pub run_of : T → S → K → List Call → Run sink.Value
  run_of t s k calls = record {
    table = table.meaning t;
    stream = source.meaning s;
    stack = sink.meaning k;
    calls = calls;
  }

  -- the run leads to the reading
  abbrev pub Reaches : Run sink.Value → Reading T S K → Type 0
  Reaches run r = after sink.algebra run ≡ reads r

  -- what a call makes of a reading
  pub record Made (c : Call) (old new : Reading T S K) : Type 0 where
    -- of the meanings of all its parts, what the machine makes of them
    pub as_called : reads new ≡ called sink.algebra c (reads old)
    pub table_same : new.table ≡ old.table
    pub memory_kept : sink.grows old.sink new.sink
    -- if it is declined, nothing
    pub declined_same : (d : Declined) → declined c (reads old) ≡ Some d → new ≡ old
    -- whatever run led to the reading, with this call it goes on so
    pub run_goes_on : (run : Run sink.Value) → Reaches run old → Reaches (then_call run c) new
