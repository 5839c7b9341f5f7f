use Rattle.std.proofs.Common.{◌≡◌, ◌≤◌, take}
use Rattle.lexing.specs.Plans.{is_digit, decimal}
use Rattle.lexing.proofs.Runs.{Passing}
use Rattle.lexer.proofs.scan.numeral.Given as goal

abbrev pub invariant-loop-length : goal.invariant-loop-length
invariant-loop-length l = record {
  passes : Passing is_digit l.rest l.length;
  comes_to : l.value ≡ decimal (take l.length l.rest);
  small : l.value ≤ 4294967295;
}
