use Rattle.exactness.proofs.passes_exactly_the_valid.Goals as goal
use Rattle.exactness.proofs.Exact.{passes_exactly_the_valid, passes_in_each_format}

pub returns : goal.returns
returns c = record { sheets = passes_exactly_the_valid; formats = passes_in_each_format }
