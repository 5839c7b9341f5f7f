use Rattle.dense.proofs.tested_is_valid.Goals as goal
use Rattle.dense.proofs.Valid.{tested_is_valid}

pub returns : goal.returns
returns c = tested_is_valid
