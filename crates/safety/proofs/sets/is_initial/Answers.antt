use Rattle.std.proofs.Common.{arith}
use Rattle.safety.proofs.Depths.{initial_is}
use Rattle.safety.proofs.sets.is_initial.Goals as goal

pub returns : goal.returns
returns c = initial_is c.args.set (omega arith)
