use Rattle.std.proofs.Common.{◌≡◌, ◌*◌, ◌^◌, ◌<◌, take}
use Rattle.lexing.specs.Plans.{spelled}
use Rattle.lexer.proofs.scan.spelled.Given as goal

abbrev pub invariant-loop-letter : goal.invariant-loop-letter
invariant-loop-letter l = record {
  comes_to : l.value ≡ spelled (take l.letter-index l.letters);
  small : l.value < 2 ^ (8 * l.letter-index);
}
