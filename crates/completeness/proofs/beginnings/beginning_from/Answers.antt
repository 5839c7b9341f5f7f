use Rattle.std.proofs.Common.{◌||◌, drop, sym, refl, ap, ◌∙◌, arith, drop_of_length-le}
use Rattle.syntax.specs.Grammar.{InRange}
use Rattle.table.specs.Completeness.{first_of}
use Rattle.layout.specs.Records.{sixteen}
use Rattle.completeness.specs.Rights.{rights}
use Rattle.wellformed.proofs.Bits.{stands_none}
use Rattle.hinted.proofs.Lists.{nth_none}
use Rattle.completeness.proofs.Rights.{nothing_left, every_nth, rights_ranged, nullable_on, nullable_end}
use Rattle.completeness.proofs.Rights.{first_on, first_end}
use Rattle.completeness.proofs.beginnings.beginning_from.Goals as goal

pub loop-k-init : goal.loop-k-init
loop-k-init g c =
    let H = g.T.Hinted.hints c.args.table.now in
    let all = rights (g.T.Table.meaning c.args.table.now).grammar c.args.p in
    (refl, λ a. ap (λ b. b || first_of H (drop c.args.from all) a) (stands_none sixteen a))

pub first_terminals-firsts-requires : goal.first_terminals-firsts-requires
first_terminals-firsts-requires g c =
    let t = c.args.table.now in
    let ranged = rights_ranged (g.T.Table.meaning t) (g.T.Table.lawful t) c.args.p in
    let found = sym c.right_symbol.ensures ∙ c.in-Some.is in
    every_nth InRange _ c.loop-k.k c.in-Some.symbol ranged.1 found

pub returns-then-not-is_nullable : goal.returns-then-not-is_nullable
returns-then-not-is_nullable g c =
    let H = g.T.Hinted.hints c.args.table.now in
    let α = rights (g.T.Table.meaning c.args.table.now).grammar c.args.p in
    let k = c.loop-k.k in
    let X = c.in-Some.symbol in
    let found = sym c.right_symbol.ensures ∙ c.in-Some.is in
    let first = c.first_terminals-firsts in
    let last = sym c.if-not-is_nullable.ensures in
    record {
      firsts = λ a.
          first_end H α k X found c.loop-k.firsts first.result first.ensures a last
          ∙ c.loop-k.invariant.1 a;
      nullable = nullable_end H α k X found last ∙ c.loop-k.invariant.0;
    }

pub loop-k-preserved : goal.loop-k-preserved
loop-k-preserved g c =
    let H = g.T.Hinted.hints c.args.table.now in
    let α = rights (g.T.Table.meaning c.args.table.now).grammar c.args.p in
    let k = c.loop-k.k in
    let X = c.in-Some.symbol in
    let found = sym c.right_symbol.ensures ∙ c.in-Some.is in
    let first = c.first_terminals-firsts in
    let on = sym c.if-not-is_nullable.ensures in (
      nullable_on H α k X found on ∙ c.loop-k.invariant.0,
      λ a.
          first_on H α k X found c.loop-k.firsts first.result first.ensures a on
          ∙ c.loop-k.invariant.1 a,
    )

pub returns-in_default : goal.returns-in_default
returns-in_default g c =
    let H = g.T.Hinted.hints c.args.table.now in
    let α = rights (g.T.Table.meaning c.args.table.now).grammar c.args.p in
    let none = nth_none α c.loop-k.k (sym c.right_symbol.ensures ∙ c.in_default.is) in
    nothing_left H α c.args.from c.loop-k.k c.loop-k.firsts none c.loop-k.invariant.0 c.loop-k.invariant.1

pub returns-after-loop-k : goal.returns-after-loop-k
returns-after-loop-k g c =
    let t = c.args.table.now in
    let H = g.T.Hinted.hints t in
    let α = rights (g.T.Table.meaning t).grammar c.args.p in
    let few = (rights_ranged (g.T.Table.meaning t) (g.T.Table.lawful t) c.args.p).0 in
    let none = drop_of_length-le α (omega (arith, few)) in
    nothing_left H α c.args.from c.loop-k.k c.loop-k.firsts none c.loop-k.invariant.0 c.loop-k.invariant.1
