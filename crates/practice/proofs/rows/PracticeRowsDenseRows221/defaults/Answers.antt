use Rattle.practice.proofs.rows.PracticeRowsDenseRows221.defaults.Goals as goal
use Rattle.practice.proofs.Held.{default_at}

pub returns : goal.returns
returns c = default_at
