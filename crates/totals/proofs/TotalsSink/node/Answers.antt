use Rattle.std.proofs.Common.{◌-◌, ◌≤◌, length, take, drop, sym, refl, ap, arith}
use Rattle.std.proofs.lemmas.List.{length-take-le}
use Rattle.measure.specs.Joins.{joined, joining}
use Rattle.sink.proofs.Taken.{node_done}
use Rattle.totals.specs.Meaning.{places, meaning}
use Rattle.totals.proofs.Stacking.{room, children, placed}
use Rattle.totals.proofs.TotalsSink.node.Goals as goal

pub returns-clause-after : goal.returns-clause-after
returns-clause-after g c =
    let a = c.args.self.now in
    let k = c.args.children in
    let at = a.used - k in
    let enough : k ≤ length (meaning a).list = omega (arith, length-take-le a.used (places a) a.fits) in
    let room = room a k at (omega arith) refl (omega arith) in
    let children = children a k at (omega arith) refl (omega arith) in
    let placed = placed a k at (omega arith) refl (omega arith) in
    let sum = joined g.M.Measure (take (a.used - at) (drop at (places a))) in
    let joins = ap (joined g.M.Measure) (sym children) in
    node_done (joining g.M.Measure) (meaning a) c.args._production k enough room joins
    (placed c.join_last.new.places sum c.join_last.ensures)
