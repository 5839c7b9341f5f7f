use Rattle.std.proofs.Common.{◌≡◌, subst, rules}
use Rattle.std.proofs.lemmas.Fn.{fold_over, slice_gives, fronts}
use Rattle.measure.specs.Joins.{joined}
use Rattle.measure.proofs.Bracketing.{joined_push}
use Rattle.measure.proofs.rows.join_all.Goals as goal

pub returns : goal.returns
returns g c =
    let m = g.M.Measure in
    let laws = g.met.M.Measure in
    let push = joined_push m laws.associative laws.unit_left laws.unit_right in
    subst (λ row. c.fold.result ≡ joined m row) c.iter.ensures.rest
    (fold_over fronts (λ x. x.now) _ (λ xs sum. sum ≡ joined m xs) _
    (λ xs sum x new after so call. search (rules, push)) _ _ _ _ (slice_gives c.iter.result) c.unit.ensures c.fold.ensures.ran)
