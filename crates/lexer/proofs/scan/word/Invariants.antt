use Rattle.std.proofs.Common.{◌≡◌, ◌*◌, ◌^◌, ◌<◌, ◌≤◌, take}
use Rattle.lexing.specs.Plans.{is_letter, spelled}
use Rattle.lexing.proofs.Runs.{Passing}
use Rattle.lexer.proofs.scan.word.Given as goal

abbrev pub invariant-loop-length : goal.invariant-loop-length
invariant-loop-length l = record {
  passes : Passing is_letter l.rest l.length;
  comes_to : l.value ≡ spelled (take l.length l.rest);
  few : l.length ≤ 8;
  small : l.value < 2 ^ (8 * l.length);
}
