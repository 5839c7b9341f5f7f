use Rattle.totals.proofs.Fresh.{fresh_is}
use Rattle.totals.proofs.Totals.new.Goals as goal

pub returns : goal.returns
returns g c = fresh_is c.args.places _
