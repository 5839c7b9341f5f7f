use Rattle.wellformed.proofs.holds_a_lawful_table.Goals as goal
use Rattle.wellformed.proofs.Lawful.{formed_is_lawful}

pub returns : goal.returns
returns c = formed_is_lawful
