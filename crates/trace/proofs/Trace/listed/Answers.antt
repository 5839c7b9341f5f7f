use Rattle.std.proofs.Common.{sym}
use Rattle.trace.specs.Piles.{pile}
use Rattle.trace.specs.Meaning.{bytes}
use Rattle.trace.proofs.Piles.{length_top}
use Rattle.trace.proofs.Trace.listed.Goals as goal

pub returns-clause-list : goal.returns-clause-list
returns-clause-list c = let t = c.args.self.now in sym (length_top t.trees (pile t.records (bytes t)))
