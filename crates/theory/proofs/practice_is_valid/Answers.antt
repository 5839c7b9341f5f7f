use Rattle.theory.proofs.practice_is_valid.Goals as goal
use Rattle.theory.proofs.Practice.{practice_valid}

pub returns : goal.returns
returns c = practice_valid
