use Rattle.std.proofs.Common.{◌+◌, drop, sym, ◌∙◌}
use Rattle.table.specs.Hints.{right_side}
use Rattle.layout.specs.CompletenessTests.{item_complete}
use Rattle.completeness.specs.Rights.{rights}
use Rattle.completeness.proofs.Items.{behind_nothing, behind_symbol}
use Rattle.hinted.proofs.Lists.{nth_some, nth_none}
use Rattle.completeness.proofs.Rights.{dot_few}
use Rattle.completeness.proofs.item.item_is_complete.Goals as goal

pub invariant_of-is_complete-in-Some-clause-dot_few : goal.invariant_of-is_complete-in-Some-clause-dot_few
invariant_of-is_complete-in-Some-clause-dot_few g c =
    let t = c.args.table.now in
    dot_few (g.T.Table.meaning t) (g.T.Table.lawful t) c.args.p c.args.dot _ (sym c.in-Some.ensures)

pub returns-in-None : goal.returns-in-None
returns-in-None g c =
    let t = c.args.table.now in
    let M = g.T.Table.meaning t in
    let H = g.T.Hinted.hints t in
    let p = c.args.p in
    let d = c.args.dot in
    let f = item_complete M H c.args.s p d (H.look_aheads c.args.s p d) in
    let none = nth_none (rights M.grammar p) d (sym c.in-None.ensures) in
    c.is_complete.ensures ∙ behind_nothing d f (right_side M.grammar p) none

pub returns-in-Some : goal.returns-in-Some
returns-in-Some g c =
    let t = c.args.table.now in
    let M = g.T.Table.meaning t in
    let H = g.T.Hinted.hints t in
    let p = c.args.p in
    let d = c.args.dot in
    let α = rights M.grammar p in
    let X = c.in-Some.symbol in
    let f = item_complete M H c.args.s p d (H.look_aheads c.args.s p d) in
    let behind = nth_some α d X (sym c.in-Some.ensures) in
    c.is_complete-in-Some.ensures ∙ behind_symbol d f (right_side M.grammar p) X (drop (d + 1) α) behind
