use Rattle.practice.proofs.rows.PracticeRowsDenseRows221.productions.Goals as goal
use Rattle.practice.proofs.Held.{production_at}

pub returns : goal.returns
returns c = production_at
