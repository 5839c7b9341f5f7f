use Rattle.wellformed.proofs.cases_hold.Goals as goal
use Rattle.wellformed.proofs.Practice.{cases_hold}

pub returns : goal.returns
returns c = cases_hold
