use mathlib.Core.Path.{◌≡◌}
use lib.ListN.{length}
use Rattle.lexer_c.specs.Sums.{sum}
use Rattle.lexer_c.proofs.total.Given as goal

-- the tokens to come, on top of those so far, give the whole sum
abbrev pub invariant-loop-token : goal.invariant-loop-token
invariant-loop-token g l =
    sum l.all (g.S.Source.meaning l.source).tokens ≡ sum 0 (g.S.Source.meaning l.initial.source).tokens

abbrev pub decreases-loop-token : goal.decreases-loop-token
decreases-loop-token g l = length (g.S.Source.meaning l.source).tokens
