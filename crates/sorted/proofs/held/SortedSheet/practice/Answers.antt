use Rattle.std.proofs.Common.{refl}
use Rattle.layout.specs.Choices.{first, below}
use Rattle.layout.specs.Records.{count, record_at, key, payload}
use Rattle.layout.specs.Opening.{sorting}
use Rattle.sorted.proofs.held.SortedSheet.practice.Goals as goal

pub invariant_of-located : goal.invariant_of-located
unfolding sorting first below count record_at key payload
invariant_of-located c = record { sorted = refl }
