use Rattle.theory.proofs.rejects_the_hopeless.Goals as goal
use Rattle.theory.proofs.Hopeless.{rejects_the_hopeless}

pub returns : goal.returns
returns g c = rejects_the_hopeless _
