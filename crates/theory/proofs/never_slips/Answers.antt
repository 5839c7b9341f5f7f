use Rattle.theory.proofs.never_slips.Goals as goal
use Rattle.theory.proofs.Safety.{never_slips}

pub returns : goal.returns
returns g c = never_slips _
