use Rattle.machine.proofs.marked_readings.Goals as goal
use Rattle.machine.proofs.Marked.{marked}

pub returns : goal.returns
returns c = marked
