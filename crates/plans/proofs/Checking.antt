-- What is promised of a run by a valid table.
use Rattle.syntax.specs.Values.{Algebra}
use Rattle.table.specs.Lawful.{narrow}
use Rattle.table.specs.Validity.{Valid}
use Rattle.machine.specs.Runs.{Run}
use Rattle.reading.specs.Promises.{Kept, Checked}

pub checked_from : {V : Type 0} (R : Algebra V) (run : Run V) → Valid narrow run.table → Kept R run → Checked R run
checked_from R run valid kept = record {
  accepts_trees = kept.promised.accepts_trees;
  one_tree = kept.promised.one_tree valid;
  accepts_what_fits = kept.promised.accepts_what_fits valid;
  never_slips = kept.promised.never_slips valid;
  rejects_hopeless = kept.promised.rejects_hopeless valid;
  bounded = kept.bounded;
}
