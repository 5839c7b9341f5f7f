-- The number and the place of each refusal of a sink.
use Rattle.std.specs.Prelude.{ℕ}
use Rattle.sink.specs.declared.SinkFault.{SinkFault}
use Rattle.sink.specs.declared.SinkFault.TheVariants.{Full, TooFewTrees}

abbrev pub number : SinkFault → ℕ
number (Full n) = 23
number (TooFewTrees n) = 24

abbrev pub place : SinkFault → ℕ
place (Full n) = n
place (TooFewTrees n) = n
