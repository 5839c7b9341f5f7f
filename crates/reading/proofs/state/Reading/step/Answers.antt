use Rattle.std.proofs.Common.{◌<◌, ap, ◌∙◌, arith}
use Rattle.machine.specs.Reading.{last_of}
use Rattle.reading.specs.Means.{reads}
use Rattle.reading.proofs.Stepping.{shifts_so, reduces_so}
use Rattle.reading.proofs.state.Reading.step.Goals as goal

pub returns-in_ok-shift-in-More-Shift-clause-after : goal.returns-in_ok-shift-in-More-Shift-clause-after
returns-in_ok-shift-in-More-Shift-clause-after g c =
    let e = reads g.T.Table g.S.Source g.K.Sink c.args.self.now in
    let some : 0 < c.args.left = omega arith in
    shifts_so g.K.Sink.algebra e c.requires.running c.args.left some
    (c.last_of-state.ensures ∙ ap last_of c.deref.ensures.0) c.in_ok-found.found
    c.in_ok-found.ensures.answer c.find.ensures.same c.in-More-Shift.is-1
    c.in_ok-shift-in-More-Shift.ensures.after

pub returns-in_ok-reduce-in-More-Reduce-clause-after : goal.returns-in_ok-reduce-in-More-Reduce-clause-after
returns-in_ok-reduce-in-More-Reduce-clause-after g c =
    let e = reads g.T.Table g.S.Source g.K.Sink c.args.self.now in
    let some : 0 < c.args.left = omega arith in
    reduces_so g.K.Sink.algebra e c.requires.running c.args.left some
    (c.last_of-state.ensures ∙ ap last_of c.deref.ensures.0) c.in_ok-found.found
    c.in_ok-found.ensures.answer c.find.ensures.same c.in-More-Reduce.is-1
    c.in_ok-reduce-in-More-Reduce.ensures.after
