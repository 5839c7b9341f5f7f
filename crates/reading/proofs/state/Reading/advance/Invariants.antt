use Rattle.std.proofs.Common.{◌≡◌, ◌+◌, ◌≤◌}
use Rattle.outcome.specs.declared.Outcome.TheVariants.{More}
use Rattle.machine.specs.Reading.{most_steps}
use Rattle.reading.specs.Means.{reads}
use Rattle.reading.specs.Steps.{going}
use Rattle.reading.proofs.state.Reading.advance.Given as goal

abbrev pub invariant-loop-left : goal.invariant-loop-left
invariant-loop-left g l =
    let R = g.K.Sink.algebra in
    record {
      goes : going R l.left (reads g.T.Table g.S.Source g.K.Sink l.self)
          ≡ going R l.n (reads g.T.Table g.S.Source g.K.Sink l.initial.self);
      few : l.self.steps + l.left ≤ most_steps;
      running : l.self.outcome ≡ More;
      table : l.self.table ≡ l.initial.self.table;
      memory : g.K.Sink.grows l.initial.self.sink l.self.sink;
    }
