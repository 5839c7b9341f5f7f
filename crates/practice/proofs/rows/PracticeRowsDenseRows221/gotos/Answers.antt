use Rattle.practice.proofs.rows.PracticeRowsDenseRows221.gotos.Goals as goal
use Rattle.practice.proofs.Held.{goto_at}

pub returns : goal.returns
returns c = goto_at
