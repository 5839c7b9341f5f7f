use Rattle.machine.proofs.answers_are_true.Goals as goal
use Rattle.machine.proofs.Answering.{answers_truly}

pub returns : goal.returns
returns g c = answers_truly _
