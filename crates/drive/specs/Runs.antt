-- What comes of a run.
use Rattle.std.specs.Prelude.{◌≡◌, List}
use Rattle.table.specs.declared.Table as tables
use Rattle.source.specs.declared.Source as sources
use Rattle.sink.specs.declared.Sink as sinks
use Rattle.outcome.specs.declared.Call.{Call}
use Rattle.machine.specs.Calls.{report as told}
use Rattle.machine.specs.Runs.{after}
use Rattle.reading.specs.declared.Reading.{Reading}
use Rattle.reading.specs.Means.{reads, run_of}
use Rattle.reading.specs.Promises.{Parts}
use Rattle.drive.specs.declared.Driven.{Driven}

module _ {T S K : Type 0} (table : tables.Ghosts T) (source : sources.Ghosts S) (sink : sinks.Ghosts K) where
  -- the reading is closed: its report, and its parts as they stand
  pub record Closed (reading : Reading T S K) (r : Driven T S K) : Type 0 where
    pub told_is : r.report ≡ told (reads table source sink reading)
    pub table_is : r.table ≡ reading.table
    pub source_is : r.source ≡ reading.source
    pub sink_is : r.sink ≡ reading.sink

  -- the run of these calls, from these parts, comes to r as the machine says
  pub record Ran (t : T) (s : S) (k : K) (calls : List Call) (r : Driven T S K) : Type 0 where
    pub told_is : r.report ≡ told (after sink.algebra (run_of table source sink t s k calls))
    pub parts : Parts table source sink r.table r.source r.sink
        (after sink.algebra (run_of table source sink t s k calls))
    pub table_same : r.table ≡ t
    pub memory_kept : sink.grows k r.sink
