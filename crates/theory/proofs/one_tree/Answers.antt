use Rattle.theory.proofs.one_tree.Goals as goal
use Rattle.theory.proofs.Onward.{one_tree}

pub returns : goal.returns
returns c = one_tree
