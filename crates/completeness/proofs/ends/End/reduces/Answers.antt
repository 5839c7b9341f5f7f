use Rattle.std.proofs.Common.{◌||◌, eqb, sym, ap, ◌∙◌, arith}
use Rattle.std.proofs.lemmas.Bool.{eq-eqb, ne_eqb}
use Rattle.completeness.specs.Items.{looks_of}
use Rattle.completeness.proofs.Items.{by_default}
use Rattle.completeness.proofs.ends.End.reduces.Goals as goal

pub returns-then-self-eq0 : goal.returns-then-self-eq0
returns-then-self-eq0 g c =
    let x = c.args.self.now.item in
    let t = c.args.self.now.table.now in
    let H = g.T.Hinted.hints t in
    let few = (g.T.Hinted.bounded t).look_aheads_fit x.state x.production x.dot in
    let is = sym c.default_reduction.ensures ∙ c.in-Some.is in
    let none = eq-eqb x.looks 0 c.if-self-eq0.true in
    none ∙ ap (λ b. b || eqb c.in-Some.p x.production) (sym none)
    ∙ by_default (g.T.Table.meaning t) x.state c.in-Some.p is H x.production x.looks (looks_of H x)
    (omega arith) few c.args.self.now.has_looks

pub returns-else-self-eq0 : goal.returns-else-self-eq0
returns-else-self-eq0 g c =
    let x = c.args.self.now.item in
    let t = c.args.self.now.table.now in
    let H = g.T.Hinted.hints t in
    let few = (g.T.Hinted.bounded t).look_aheads_fit x.state x.production x.dot in
    let is = sym c.default_reduction.ensures ∙ c.in-Some.is in
    let some = ne_eqb x.looks 0 c.if-self-eq0.false in
    ap (λ b. b || eqb c.in-Some.p x.production) (sym some)
    ∙ by_default (g.T.Table.meaning t) x.state c.in-Some.p is H x.production x.looks (looks_of H x)
    (omega arith) few c.args.self.now.has_looks
