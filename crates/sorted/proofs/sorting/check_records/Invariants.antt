use Rattle.std.proofs.Common.{◌≡◌, None}
use Rattle.layout.specs.Choices.{first}
use Rattle.layout.specs.Records.{sheet}
use Rattle.layout.specs.Opening.{record_refused}
use Rattle.sorted.proofs.Chunks.{key_before}
use Rattle.sorted.proofs.sorting.check_records.Given as goal

abbrev pub invariant-loop-i : goal.invariant-loop-i
invariant-loop-i l = record {
  clean : first (record_refused (sheet l.bytes)) l.i ≡ None;
  before : l.before ≡ key_before (sheet l.bytes) l.i;
}
