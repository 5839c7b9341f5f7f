use Rattle.wellformed.proofs.opens_exactly_the_well_formed.Goals as goal
use Rattle.wellformed.proofs.Formed.{sorts_exactly_sorted, opens_exactly_formed}

pub returns : goal.returns
returns c = record { sorted = sorts_exactly_sorted; formed = opens_exactly_formed }
