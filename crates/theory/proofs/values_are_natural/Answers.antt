use Rattle.theory.proofs.values_are_natural.Goals as goal
use Rattle.theory.proofs.Natural.{natural, reading_maps}

pub returns : goal.returns
returns g c = record { moves = natural _ _; trees = reading_maps _ }
