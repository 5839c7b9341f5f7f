use Rattle.trace.proofs.Fresh.{fresh_is}
use Rattle.trace.proofs.Trace.new.Goals as goal

pub returns : goal.returns
returns c = fresh_is c.args.bytes _ _
