use Rattle.machine.proofs.runs_are_bounded.Goals as goal
use Rattle.machine.proofs.Bounds.{bounds}

pub returns : goal.returns
returns g c = bounds _
