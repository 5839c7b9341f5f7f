use Rattle.std.proofs.Common.{sym, ◌∙◌, subst, arith}
use Rattle.syntax.specs.Grammar.{InRange}
use Rattle.table.specs.Completeness.{first_symbol}
use Rattle.completeness.proofs.Bits.{holds_one}
use Rattle.completeness.proofs.beginnings.first_terminals.Goals as goal

pub returns-in-Terminal : goal.returns-in-Terminal
returns-in-Terminal g c =
    let H = g.T.Hinted.hints c.args.table.now in
    let kind = subst InRange c.in-Terminal.is c.requires in
    λ x. holds_one c.in-Terminal.a (omega arith) x ∙ (λ i. first_symbol H (sym c.in-Terminal.is i) x)
