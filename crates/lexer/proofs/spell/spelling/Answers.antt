use Rattle.lexing.proofs.Distinctness.{words_distinct}
use Rattle.lexer.proofs.spell.spelling.Goals as goal

pub returns-then-is_word-clause-distinct : goal.returns-then-is_word-clause-distinct
returns-then-is_word-clause-distinct c = words_distinct c.args.letters.now

pub returns-else-is_word-clause-distinct : goal.returns-else-is_word-clause-distinct
returns-else-is_word-clause-distinct c = words_distinct c.args.letters.now
