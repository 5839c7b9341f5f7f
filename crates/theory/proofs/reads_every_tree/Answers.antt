use Rattle.theory.proofs.reads_every_tree.Goals as goal
use Rattle.theory.proofs.Completeness.{reads_every_tree}

pub returns : goal.returns
returns g c = reads_every_tree _
