use Rattle.std.proofs.Common.{◌*◌, ◌^◌, ◌≤◌, arith, pow_mono}
use Rattle.lexing.proofs.Runs.{spelled_more, spelled_room}
use Rattle.lexer.proofs.scan.spelled.Goals as goal

pub overflow_mul-value : goal.overflow_mul-value
overflow_mul-value c =
    let i = c.loop-letter.letter-index in
    let top : 2 ^ (8 * i) ≤ 2 ^ 56 = pow_mono {i = 8 * i} {j = 56} (omega arith) in
    omega arith

pub loop-letter-preserved : goal.loop-letter-preserved
loop-letter-preserved c =
    let s = c.loop-letter in
    rw c.from.ensures record {
      comes_to = spelled_more _ s.letter-index s.value c.loop-letter-test.true s.invariant.comes_to;
      small = spelled_room _ s.letter-index s.value s.invariant.small (omega (arith, c.type_inv.letters s.letter-index));
    }
