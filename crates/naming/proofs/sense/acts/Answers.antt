use Rattle.std.proofs.Common.{false, ◌∙◌, tests, rules}
use Rattle.wellformed.proofs.Formed.{sorted_of}
use Rattle.naming.proofs.Rows.{given_of}
use Rattle.naming.proofs.Acts.{is_action_of, acts_found}
use Rattle.naming.proofs.sense.acts.Goals as goal

pub returns : goal.returns
returns c =
    let bs = c.args.sorted.now.bytes.now in
    let w = sorted_of _ c.args.sorted.now.sorted in
    given_of false (is_action_of c.args.s) c.first_from.result c.is_some_and.result c.is_some_and.ensures (λ x h. search (rules, tests))
    ∙ acts_found bs w c.args.s c.first_from.result c.first_from.ensures
