use Rattle.exactness.proofs.tells_the_first_refusal.Goals as goal
use Rattle.exactness.proofs.Told.{verdict_tells_first}

pub returns : goal.returns
returns c = verdict_tells_first
