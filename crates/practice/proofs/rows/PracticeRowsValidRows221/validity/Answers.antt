use Rattle.practice.proofs.rows.PracticeRowsValidRows221.validity.Goals as goal
use Rattle.layout.specs.Practice.{practice_bytes}
use Rattle.exactness.proofs.Exact.{valid_of}
use Rattle.exactness.proofs.Practice.{practice_passes}

pub returns : goal.returns
returns c = valid_of practice_bytes practice_passes
