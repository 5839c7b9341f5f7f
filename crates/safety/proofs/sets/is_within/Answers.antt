use Rattle.std.proofs.Common.{arith}
use Rattle.safety.proofs.Depths.{within_is}
use Rattle.safety.proofs.sets.is_within.Goals as goal

pub returns : goal.returns
returns c = within_is c.args.lower c.args.set (omega arith)
