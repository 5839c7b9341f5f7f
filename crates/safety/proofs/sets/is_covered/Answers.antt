use Rattle.std.proofs.Common.{◌+◌, ◌&&◌, sym, ap, ◌∙◌, arith}
use Rattle.safety.specs.Parts.{marked}
use Rattle.safety.proofs.Depths.{covers_from, decided, covers_next, covers_short, covers_done, covers_end}
use Rattle.safety.proofs.sets.is_covered.Goals as goal

pub returns-in_default : goal.returns-in_default
returns-in_default g c =
    let H = g.T.Hinted.hints c.args.table.now in
    let xs = H.past_sets c.args.to in
    let d = c.loop-depth.depth in
    decided H c.args.s d xs c.loop-depth.invariant
    (covers_done xs (marked H c.args.s) d c.in_default.ensures)

pub returns-in_default-shadow_set : goal.returns-in_default-shadow_set
returns-in_default-shadow_set g c =
    let H = g.T.Hinted.hints c.args.table.now in
    let xs = H.past_sets c.args.to in
    let d = c.loop-depth.depth in
    decided H c.args.s d xs c.loop-depth.invariant
    (covers_short xs (marked H c.args.s) d _ c.in-Some.ensures c.in_default-shadow_set.ensures)

pub returns-then-not-is_within : goal.returns-then-not-is_within
returns-then-not-is_within g c =
    let H = g.T.Hinted.hints c.args.table.now in
    let xs = H.past_sets c.args.to in
    let ys = marked H c.args.s in
    let d = c.loop-depth.depth in
    let next = covers_next xs ys d _ _ c.in-Some.ensures c.in-Some-shadow_set.ensures in
    let fails = ap (λ b. b && covers_from (d + 1) xs ys) (sym c.if-not-is_within.ensures) in
    decided H c.args.s d xs c.loop-depth.invariant (next ∙ fails)

pub loop-depth-preserved : goal.loop-depth-preserved
loop-depth-preserved g c =
    let H = g.T.Hinted.hints c.args.table.now in
    let xs = H.past_sets c.args.to in
    let ys = marked H c.args.s in
    let d = c.loop-depth.depth in
    let next = covers_next xs ys d _ _ c.in-Some.ensures c.in-Some-shadow_set.ensures in
    ap (λ b. b && covers_from (d + 1) xs ys) c.if-not-is_within.ensures ∙ sym next ∙ c.loop-depth.invariant

pub returns : goal.returns
returns g c =
    let H = g.T.Hinted.hints c.args.table.now in
    let xs = H.past_sets c.args.to in
    let d = c.loop-depth.depth in
    let few = (g.T.Hinted.bounded c.args.table.now).sets_few c.args.to in
    decided H c.args.s d xs c.loop-depth.invariant (covers_end xs (marked H c.args.s) d (omega arith))
