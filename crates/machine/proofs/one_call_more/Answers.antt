use Rattle.machine.proofs.one_call_more.Goals as goal
use Rattle.machine.proofs.Answering.{one_call_more}

pub returns : goal.returns
returns g c = one_call_more _
