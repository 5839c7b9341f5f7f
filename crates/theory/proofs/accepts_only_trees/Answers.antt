use Rattle.theory.proofs.accepts_only_trees.Goals as goal
use Rattle.theory.proofs.Sound.{accepts_only_trees}

pub returns : goal.returns
returns g c = accepts_only_trees _
