use mathlib.Core.Path.{◌≡◌}
use Rattle.lexer_c.proofs.peeked.Given as goal

abbrev pub invariant-loop : goal.invariant-loop
invariant-loop g l = g.S.Source.meaning l.source ≡ g.S.Source.meaning l.initial.source
