use Rattle.practice.proofs.rows.PracticeRowsDenseRows221.actions.Goals as goal
use Rattle.practice.proofs.Held.{action_at}

pub returns : goal.returns
returns c = action_at
