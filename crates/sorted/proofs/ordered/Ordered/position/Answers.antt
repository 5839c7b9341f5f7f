use Rattle.std.proofs.Common.{◌≡◌, sym, subst, arith}
use Rattle.layout.specs.Records.{sheet}
use Rattle.wellformed.proofs.Seeks.{Between, position_is}
use Rattle.wellformed.proofs.Formed.{sorted_of}
use Rattle.sorted.proofs.Halving.{upper_half, lower_half}
use Rattle.sorted.proofs.ordered.Ordered.position.Goals as goal

pub loop-low-preserved-then-key_in-k : goal.loop-low-preserved-then-key_in-k
loop-low-preserved-then-key_in-k c =
    let w = sorted_of (sheet c.args.self.bytes.now) c.args.self.sorted in
    upper_half _ w _ _ _ c.loop-low.invariant c.loop-low-test.true _ c.rows_of-rows.ensures.rows _ c.key_in.ensures
    c.if-key_in-k.true

pub loop-low-preserved : goal.loop-low-preserved
loop-low-preserved c =
    let w = sorted_of (sheet c.args.self.bytes.now) c.args.self.sorted in
    lower_half _ w _ _ _ c.loop-low.invariant c.loop-low-test.true _ c.rows_of-rows.ensures.rows _ c.key_in.ensures
    c.if-key_in-k.false

pub returns : goal.returns
returns c =
    let w = sorted_of (sheet c.args.self.bytes.now) c.args.self.sorted in
    let same : c.loop-low.high ≡ c.loop-low.low = omega (arith, c.loop-low.invariant.ordered) in
    let closed = subst (Between (sheet c.args.self.bytes.now) c.args.k c.loop-low.low) same c.loop-low.invariant in
    sym (position_is _ w _ _ closed)
