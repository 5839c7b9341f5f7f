use Rattle.exactness.proofs.cases_hold.Goals as goal
use Rattle.exactness.proofs.Practice.{cases_hold}

pub returns : goal.returns
returns c = cases_hold
