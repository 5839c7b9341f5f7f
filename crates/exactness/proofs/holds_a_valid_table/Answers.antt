use Rattle.exactness.proofs.holds_a_valid_table.Goals as goal
use Rattle.exactness.proofs.Exact.{checked_is_valid}

pub returns : goal.returns
returns c = checked_is_valid
