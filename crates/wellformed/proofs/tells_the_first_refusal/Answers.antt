use Rattle.wellformed.proofs.tells_the_first_refusal.Goals as goal
use Rattle.wellformed.proofs.Told.{tells_first, opening_tells_first}

pub returns : goal.returns
returns c = record { passes = tells_first; opening = opening_tells_first }
