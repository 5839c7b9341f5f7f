use Rattle.practice.proofs.rows.PracticeRowsDenseRows221.incoming.Goals as goal
use Rattle.practice.proofs.Held.{incoming_at}

pub returns : goal.returns
returns c = incoming_at
