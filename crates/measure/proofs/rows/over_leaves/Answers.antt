use Rattle.std.proofs.Common.{◌≡◌, subst, rules}
use Rattle.std.proofs.lemmas.Fn.{fold_over, slice_gives, fronts}
use Rattle.measure.specs.Joins.{over_leaves}
use Rattle.measure.proofs.Bracketing.{brackets, leaves_push}
use Rattle.measure.proofs.rows.over_leaves.Goals as goal

pub returns-clause-value : goal.returns-clause-value
returns-clause-value g c =
    let m = g.M.Measure in
    let laws = g.met.M.Measure in
    let push = leaves_push m laws.associative laws.unit_left laws.unit_right in
    subst (λ tokens. c.fold.result ≡ over_leaves m tokens) c.iter.ensures.rest
    (fold_over fronts (λ t. t.now) _ (λ ts sum. sum ≡ over_leaves m ts) _
    (λ ts sum t new after so call. search (rules, push)) _ _ _ _ (slice_gives c.iter.result) c.unit.ensures c.fold.ensures.ran)

pub returns-clause-bracketing : goal.returns-clause-bracketing
returns-clause-bracketing g c =
    let laws = g.met.M.Measure in
    brackets g.M.Measure laws.associative laws.unit_left laws.unit_right
