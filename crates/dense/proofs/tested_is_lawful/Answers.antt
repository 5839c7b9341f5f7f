use Rattle.dense.proofs.tested_is_lawful.Goals as goal
use Rattle.dense.proofs.Lawful.{tested_is_lawful}

pub returns : goal.returns
returns c = tested_is_lawful
