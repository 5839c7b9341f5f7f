use Rattle.std.proofs.Common.{◌-◌}
use Rattle.layout.specs.Records.{sheet}
use Rattle.wellformed.proofs.Seeks.{Between}
use Rattle.sorted.proofs.ordered.Ordered.position.Given as goal

abbrev pub invariant-loop-low : goal.invariant-loop-low
invariant-loop-low l = Between (sheet l.self.bytes.now) l.k l.low l.high

abbrev pub decreases-loop-low : goal.decreases-loop-low
decreases-loop-low l = l.high - l.low
