use Rattle.std.proofs.Common.{◌||◌, sym, ap, ◌∙◌, ap₂, arith}
use Rattle.table.specs.Completeness.{nullable_all, first_of}
use Rattle.layout.specs.Records.{sixteen, member}
use Rattle.wellformed.proofs.Loops.{some_start}
use Rattle.wellformed.proofs.Bits.{stands_none, stands_either}
use Rattle.completeness.proofs.Rules.{counted, all_counted, none_beyond, together, some_takes, some_skips}
use Rattle.completeness.proofs.equations.beginning_of_all.Goals as goal
use Rattle.completeness.proofs.equations.beginning_of_all.Goals.{then-production-n, else-production-n}

pub loop-p-init : goal.loop-p-init
loop-p-init g c = (omega arith, sym (some_start _), λ a. stands_none sixteen a ∙ sym (some_start _))

pub loop-p-preserved : goal.loop-p-preserved
loop-p-preserved g c =
    let t = c.args.table.now in
    let M = g.T.Table.meaning t in
    let lawful = g.T.Table.lawful t in
    let H = g.T.Hinted.hints t in
    let n = c.args.n in
    let p = c.loop-p.p in
    let x = c.in-Some.production in
    let here = sym c.production.ensures ∙ c.in-Some.is in
    let count = counted M lawful p x here in
    let inv = c.loop-p.invariant in
    elim c.if-production-n.branch [
      | then-production-n w ↦
          let right = w.beginning_from-right in
          let begins = right.ensures in
          let both = stands_either sixteen c.loop-p.firsts right.result.firsts _ _ inv.2 begins.firsts in
          let own = w.if-production-n.true in (
            omega arith,
            w.nullable-is ∙ ap₂ (λ a b. a || b) inv.1 begins.nullable
                ∙ some_takes M lawful n p x here (nullable_all H) own,
            λ a.
                ap (λ m. member sixteen m a) w.firsts-is ∙ both a
                ∙ some_takes M lawful n p x here (λ α. first_of H α a) own,
          )
      | else-production-n w ↦
          let other = w.if-production-n.false in (
            omega arith,
            w.nullable-is ∙ inv.1 ∙ some_skips M lawful n p x here (nullable_all H) other,
            λ a.
                ap (λ m. member sixteen m a) w.firsts-is ∙ inv.2 a
                ∙ some_skips M lawful n p x here (λ α. first_of H α a) other,
          )
    ]

pub returns-in_default : goal.returns-in_default
returns-in_default g c =
    let t = c.args.table.now in
    let M = g.T.Table.meaning t in
    let lawful = g.T.Table.lawful t in
    let inv = c.loop-p.invariant in
    let none = sym c.production.ensures ∙ c.in_default.is in
    let all = all_counted M lawful c.loop-p.p inv.0 none in
    together M lawful (g.T.Hinted.hints t) c.args.n c.loop-p.p _ _ all inv.2 inv.1

pub returns-after-loop-p : goal.returns-after-loop-p
returns-after-loop-p g c =
    let t = c.args.table.now in
    let M = g.T.Table.meaning t in
    let lawful = g.T.Table.lawful t in
    let inv = c.loop-p.invariant in
    let all = none_beyond M lawful c.loop-p.p inv.0 (omega arith) in
    together M lawful (g.T.Hinted.hints t) c.args.n c.loop-p.p _ _ all inv.2 inv.1
