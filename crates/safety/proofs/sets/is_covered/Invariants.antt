use Rattle.std.proofs.Common.{◌≡◌}
use Rattle.safety.specs.Parts.{marked}
use Rattle.safety.proofs.Depths.{covers_from}
use Rattle.safety.proofs.sets.is_covered.Given as goal

-- what is left to compare decides
abbrev pub invariant-loop-depth : goal.invariant-loop-depth
invariant-loop-depth g l =
    let H = g.T.Hinted.hints l.table in
    covers_from l.depth (H.past_sets l.to) (marked H l.s)
    ≡ covers_from 0 (H.past_sets l.to) (marked H l.s)
