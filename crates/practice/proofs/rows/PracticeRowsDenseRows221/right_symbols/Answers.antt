use Rattle.practice.proofs.rows.PracticeRowsDenseRows221.right_symbols.Goals as goal
use Rattle.practice.proofs.Held.{right_at}

pub returns : goal.returns
returns c = right_at
