use Rattle.std.proofs.Common.{sym, ◌∙◌, arith}
use Rattle.table.specs.Lawful.{narrow}
use Rattle.wellformed.proofs.Loops.{below_start, below_more, below_fails}
use Rattle.safety.proofs.Depths.{goes, skip, goes_is, all_tested}
use Rattle.safety.proofs.Lowest.{found, shifted_on}
use Rattle.safety.proofs.sets.all_go.Goals as goal

pub loop-rest-init : goal.loop-rest-init
loop-rest-init g c = (omega arith, below_start _, omega arith)

pub returns-then-is_none : goal.returns-then-is_none
returns-then-is_none g c =
    let M = g.T.Table.meaning c.args.table.now in
    let H = g.T.Hinted.hints c.args.table.now in
    let set = c.args.set in
    let at = found set _ c.loop-rest.s (omega arith) c.loop-rest.invariant.2 c.loop-rest-test.true in
    let test = goes_is M H set c.args.n _ c.goto.result at.is_member c.goto.ensures in
    sym (below_fails (goes M H set c.args.n) narrow _ at.within (test ∙ c.if-is_none.ensures))

pub loop-rest-preserved : goal.loop-rest-preserved
loop-rest-preserved g c =
    let M = g.T.Table.meaning c.args.table.now in
    let H = g.T.Hinted.hints c.args.table.now in
    let set = c.args.set in
    let n = c.args.n in
    let (le, tested, left) = c.loop-rest.invariant in
    let at = found set _ c.loop-rest.s (omega arith) left c.loop-rest-test.true in
    let test = goes_is M H set n _ c.goto.result at.is_member c.goto.ensures in
    let so_far = skip M H set n c.loop-rest.s _ tested at.skipped in
    let next = shifted_on set _ c.loop-rest.s (omega arith) left c.loop-rest-test.true in (
      omega (arith, at.within),
      below_more (goes M H set n) _ so_far (test ∙ c.if-is_none.ensures),
      c.above-rest.ensures ∙ next,
    )

pub returns : goal.returns
returns g c =
    let M = g.T.Table.meaning c.args.table.now in
    let H = g.T.Hinted.hints c.args.table.now in
    let (le, tested, left) = c.loop-rest.invariant in
    sym (all_tested M H c.args.set c.args.n c.loop-rest.s le tested (sym left ∙ c.loop-rest-test.false))
