use Rattle.std.proofs.Common.{◌≡◌, ◌+◌, ◌<◌, ◌≤◌, sym, ap, ◌∙◌, subst, arith, le-leb}
use borrow.Author.Tests.{lt-leb}
use Rattle.outcome.specs.declared.Call.TheVariants.{Turn}
use Rattle.machine.specs.Reading.{most_steps, go_on, spend}
use Rattle.reading.specs.Means.{reads}
use Rattle.reading.specs.Steps.{noted}
use Rattle.reading.proofs.Making.{turn_over, turn_excess, turn_taken, made, declined_so}
use Rattle.reading.proofs.state.Reading.turn.Goals as goal
use Rattle.reading.proofs.state.Reading.turn.Goals.{in-Err, in_default}

pub returns-then-has_ended-clause-made : goal.returns-then-has_ended-clause-made
returns-then-has_ended-clause-made g c =
    let r = c.args.self.now in
    let n = c.args.n in
    let e = reads g.T.Table g.S.Source g.K.Sink r in
    declined_so g.T.Table g.S.Source g.K.Sink (Turn n) r _ (turn_over e (sym c.if-has_ended.ensures) n)

pub returns-then-self-from-clause-made : goal.returns-then-self-from-clause-made
returns-then-self-from-clause-made g c =
    let r = c.args.self.now in
    let n = c.args.n in
    let e = reads g.T.Table g.S.Source g.K.Sink r in
    let more : most_steps < r.steps + n = omega (arith, c.from.ensures, c.if-self-from.true) in
    declined_so g.T.Table g.S.Source g.K.Sink (Turn n) r _
    (turn_excess e (sym c.if-has_ended.ensures) n (lt-leb (r.steps + n) most_steps more))

pub returns-clause-made : goal.returns-clause-made
returns-clause-made g c =
    let r = c.args.self.now in
    let n = c.args.n in
    let R = g.K.Sink.algebra in
    let e = reads g.T.Table g.S.Source g.K.Sink r in
    let old = c.advance.new.self in
    let new = c.match-advance.self in
    let few : r.steps + n ≤ most_steps = omega (arith, c.from.ensures, c.if-self-from.false) in
    let on = sym c.if-has_ended.ensures in
    let (is, table_is, sink_is) : (reads g.T.Table g.S.Source g.K.Sink new ≡ noted c.advance.result (reads g.T.Table g.S.Source g.K.Sink old))
    × (new.table ≡ old.table) × (new.sink ≡ old.sink) =
    elim c.match-advance.branch [
      | in-Err w ↦ (
        ap (reads g.T.Table g.S.Source g.K.Sink) w.self-is
            ∙ sym (ap (λ y. noted y (reads g.T.Table g.S.Source g.K.Sink old)) w.in-Err.is),
        ap (λ x. x.table) w.self-is,
        ap (λ x. x.sink) w.self-is,
      )
      | in_default w ↦ (
        ap (reads g.T.Table g.S.Source g.K.Sink) w.self-is
            ∙ sym (ap (λ y. noted y (reads g.T.Table g.S.Source g.K.Sink old)) w.in_default.is),
        ap (λ x. x.table) w.self-is,
        ap (λ x. x.sink) w.self-is,
      )
    ] in
    made g.T.Table g.S.Source g.K.Sink (Turn n) r new (turn_taken e on n (le-leb (r.steps + n) most_steps few))
    (is ∙ c.advance.ensures.after ∙ ap (λ b. go_on R b (λ s. spend R n s) e) on)
    (table_is ∙ c.advance.ensures.table)
    (subst (λ k. g.K.Sink.grows r.sink k) (sym sink_is) c.advance.ensures.memory)
