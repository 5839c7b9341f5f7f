use Rattle.std.proofs.Common.{sym, ◌∙◌, arith}
use Rattle.completeness.proofs.Rules.{agree, equations_are}
use Rattle.completeness.proofs.equations.equations_hold.Goals as goal

pub returns-then-nullable-all : goal.returns-then-nullable-all
returns-then-nullable-all g c =
    let t = c.args.table.now in
    let all = c.beginning_of_all-all in
    let same = agree _ _ c.if-nullable-all.true in
    equations_are (g.T.Table.meaning t) (g.T.Table.lawful t) (g.T.Hinted.hints t) (g.T.Hinted.bounded t)
    c.args.n c.firsts.result all.result.firsts (omega arith) (omega arith) c.firsts.ensures
    all.ensures.firsts (sym c.nullable.ensures ∙ same ∙ all.ensures.nullable)
