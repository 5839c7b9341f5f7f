use Rattle.exactness.proofs.holds_lawful_hints.Goals as goal
use Rattle.exactness.proofs.Hints.{hints_are_lawful}

pub returns : goal.returns
returns c = hints_are_lawful
