use Rattle.std.proofs.Common.{sym, subst}
use Rattle.lexing.specs.Reading.{TheReading}
use Rattle.lexing.proofs.OneReading.{the_reading}
use Rattle.lexer.proofs.Lexer.new.Goals as goal

pub returns-clause-reading : goal.returns-clause-reading
returns-clause-reading c =
    subst (TheReading c.args.plan.now) (sym c.over.ensures) (the_reading c.args.plan.now)
