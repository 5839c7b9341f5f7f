use Rattle.machine.proofs.promise_of_runs.Goals as goal
use Rattle.machine.proofs.Promise.{promise}

pub returns : goal.returns
returns g c = promise _
