use Rattle.std.proofs.Common.{sym, subst, arith}
use Rattle.std.proofs.lemmas.Nat.{one_shl}
use Rattle.hinted.specs.Sets.{Holds}
use Rattle.safety.specs.Parts.{alone}
use Rattle.safety.proofs.Depths.{alone_held, beyond_held}
use Rattle.safety.proofs.sets.only.Goals as goal

pub returns-then-s-lt-STATES : goal.returns-then-s-lt-STATES
returns-then-s-lt-STATES c =
    let s = c.args.s in
    subst (λ m. Holds m (alone s)) (sym (one_shl s 64 (omega arith))) (alone_held s (omega arith))

pub returns-else-s-lt-STATES : goal.returns-else-s-lt-STATES
returns-else-s-lt-STATES c = beyond_held c.args.s (omega arith)
