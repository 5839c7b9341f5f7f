use Rattle.std.proofs.Common.{sym, ap, ◌∙◌, arith}
use Rattle.layout.specs.Choices.{below}
use Rattle.layout.specs.CompletenessTests.{rule_count}
use Rattle.wellformed.proofs.Loops.{below_start, below_more, below_fails}
use Rattle.completeness.specs.Items.{first_has}
use Rattle.completeness.proofs.Rules.{if_left, counted, all_counted, none_beyond, asks, passes}
use Rattle.completeness.proofs.closure.first_items_have.Goals as goal
use Rattle.completeness.proofs.closure.first_items_have.Goals.{
  else-production-n-via-then-production-n+else-not-first_item_has,
  else-production-n-via-else-production-n,
}

pub loop-q-init : goal.loop-q-init
loop-q-init g c = (omega arith, below_start _)

pub returns-then-not-first_item_has : goal.returns-then-not-first_item_has
returns-then-not-first_item_has g c =
    let t = c.args.table.now in
    let M = g.T.Table.meaning t in
    let lawful = g.T.Table.lawful t in
    let q = c.loop-q.q in
    let x = c.in-Some.production in
    let here = sym c.production.ensures ∙ c.in-Some.is in
    let count = counted M lawful q x here in
    let H = g.T.Hinted.hints t in
    let f = first_has H c.args.s c.args.wanted in
    let own = asks M lawful c.args.n q x here f c.if-production-n.true in
    let fails = own ∙ sym c.if-not-first_item_has.ensures in
    sym (below_fails (if_left M.grammar c.args.n f) (rule_count M.grammar) q count.1 fails)

pub loop-q-preserved : goal.loop-q-preserved
loop-q-preserved g c =
    let t = c.args.table.now in
    let M = g.T.Table.meaning t in
    let lawful = g.T.Table.lawful t in
    let q = c.loop-q.q in
    let x = c.in-Some.production in
    let here = sym c.production.ensures ∙ c.in-Some.is in
    let count = counted M lawful q x here in
    let H = g.T.Hinted.hints t in
    let f = first_has H c.args.s c.args.wanted in (
      omega arith,
      below_more _ q c.loop-q.invariant.1 (elim c.else-production-n.branch [
        | else-production-n-via-then-production-n+else-not-first_item_has w ↦
            asks M lawful c.args.n q x here f w.if-production-n.true
            ∙ sym w.first_item_has.ensures ∙ w.if-not-first_item_has.false
        | else-production-n-via-else-production-n w ↦ passes M lawful c.args.n q x here f w.if-production-n.false
      ]),
    )

pub returns-in_default : goal.returns-in_default
returns-in_default g c =
    let t = c.args.table.now in
    let M = g.T.Table.meaning t in
    let H = g.T.Hinted.hints t in
    let none = sym c.production.ensures ∙ c.in_default.is in
    let all = all_counted M (g.T.Table.lawful t) c.loop-q.q c.loop-q.invariant.0 none in
    let f = first_has H c.args.s c.args.wanted in
    sym c.loop-q.invariant.1 ∙ ap (λ n. below n (if_left M.grammar c.args.n f)) all

pub returns-after-loop-q : goal.returns-after-loop-q
returns-after-loop-q g c =
    let t = c.args.table.now in
    let M = g.T.Table.meaning t in
    let H = g.T.Hinted.hints t in
    let all = none_beyond M (g.T.Table.lawful t) c.loop-q.q c.loop-q.invariant.0 (omega arith) in
    let f = first_has H c.args.s c.args.wanted in
    sym c.loop-q.invariant.1 ∙ ap (λ n. below n (if_left M.grammar c.args.n f)) all
