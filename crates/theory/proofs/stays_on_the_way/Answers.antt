use Rattle.theory.proofs.stays_on_the_way.Goals as goal
use Rattle.theory.proofs.Onward.{stays_on_the_way}

pub returns : goal.returns
returns g c = stays_on_the_way _
