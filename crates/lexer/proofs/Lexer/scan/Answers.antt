use Rattle.std.proofs.Common.{◌+◌, ◌<◌, length, refl, ap, arith}
use Rattle.lexing.proofs.Walk.{end_behind, fault_behind, token_behind, token_fits, token_kind}
use Rattle.lexer.proofs.Lexer.scan.Goals as goal
use Rattle.lexer.proofs.Lexer.scan.Goals.{Else-start-self}

pub returns-then-start-self : goal.returns-then-start-self
returns-then-start-self c =
    let s = c.args.self.now in
    let h = ap (λ n. s.at + n) c.blanks.ensures.value in
    record {
      same = end_behind s.plan.now s.at _ h c.if-start-self.true;
      looked = refl;
    }

inside : (c : Else-start-self) → c.args.self.now.at + c.blanks.result < length c.args.self.now.plan.now
inside c = omega (arith, c.blanks.ensures.within, c.if-start-self.false)

pub invariant_of-self-in-Ok : goal.invariant_of-self-in-Ok
invariant_of-self-in-Ok c =
    let s = c.args.self.now in
    let h = ap (λ n. s.at + n) c.blanks.ensures.value in
    let lt = inside (goal.at.invariant_of-self-in-Ok c).Else-start-self in
    let i = c.in-Ok.ensures in
    record {
      short = s.short;
      within = token_fits s.plan.now s.at _ h lt c.in-Ok.token i;
      kind = token_kind s.plan.now s.at _ h lt c.in-Ok.token i;
    }

pub returns-in-Ok : goal.returns-in-Ok
returns-in-Ok c =
    let s = c.args.self.now in
    let h = ap (λ n. s.at + n) c.blanks.ensures.value in
    let lt = inside (goal.at.returns-in-Ok c).Else-start-self in
    record {
      same = token_behind s.plan.now s.at _ h lt c.in-Ok.token c.in-Ok.ensures;
      looked = refl;
    }

pub returns-in-Err : goal.returns-in-Err
returns-in-Err c =
    let s = c.args.self.now in
    let h = ap (λ n. s.at + n) c.blanks.ensures.value in
    let lt = inside (goal.at.returns-in-Err c).Else-start-self in
    record {
      same = fault_behind s.plan.now s.at _ h lt c.in-Err.fault c.in-Err.ensures;
      looked = refl;
    }
