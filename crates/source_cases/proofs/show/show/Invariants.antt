use Rattle.std.proofs.Common.{length}
use Rattle.source_cases.proofs.show.show.Given as goal

-- the tokens to come
abbrev pub decreases-loop-token : goal.decreases-loop-token
decreases-loop-token g l = length (g.S.Source.meaning l.source).tokens
