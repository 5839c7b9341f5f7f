use Rattle.std.proofs.Common.{◌≡◌, ◌/◌, ◌^◌, ◌≤◌, true}
use Rattle.layout.specs.Choices.{below}
use Rattle.safety.proofs.Depths.{goes}
use Rattle.safety.proofs.sets.all_go.Given as goal

-- the states below s are tested, and the others are left
abbrev pub invariant-loop-rest : goal.invariant-loop-rest
invariant-loop-rest g l =
    let M = g.T.Table.meaning l.table in
    let H = g.T.Hinted.hints l.table in
    (l.s ≤ 64) × (below l.s (goes M H l.set l.n) ≡ true) × (l.rest ≡ l.set / 2 ^ l.s)

abbrev pub decreases-loop-rest : goal.decreases-loop-rest
decreases-loop-rest g l = l.rest
