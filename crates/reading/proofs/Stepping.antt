-- What a step that was made is of a turn.
use Rattle.std.proofs.Common.{◌≡◌, ℕ, ◌-◌, ◌<◌, Ok, sym, ap, ◌∙◌, ap₂}
use Rattle.syntax.specs.Values.{Algebra}
use Rattle.table.specs.declared.Action.TheVariants.{Shift, Reduce}
use Rattle.theory.proofs.Clash.{clash}
use Rattle.source.specs.Streams.{Stream}
use Rattle.outcome.specs.declared.Outcome.TheVariants.{More}
use Rattle.machine.specs.Reading.{State, last_of, found, found_in, step_by, shifting, reducing}
use Rattle.reading.specs.declared.steps.Found.{Found}
use Rattle.reading.specs.Steps.{listed, finding, going}
use Rattle.reading.proofs.Finding.{action_found, next_found, shift_first}
use Rattle.reading.proofs.Going.{steps_on}

module _ {V : Type 0} (R : Algebra V) (e : State V) where
  -- the same, with a source that means the same
  abbrev pub looked : Stream → State V
  looked stream = record {
    table = e.table;
    cells = e.cells;
    stack = e.stack;
    stream = stream;
    steps = e.steps;
    outcome = e.outcome;
  }

  module _ (more : e.outcome ≡ More) (n : ℕ) (some : 0 < n) {state : ℕ} (state_is : state ≡ last_of e.cells)
      (x : Found) (is : Ok x ≡ finding e.table state e.stream) {stream : Stream} (same : stream ≡ e.stream)
      {new : State V} where
    made_so : new ≡ step_by R e (Ok x.action) → going R (n - 1) new ≡ going R n e
    made_so New-is =
        let is-found : found_in e ≡ Ok x.action =
        ap (λ s. found e.table s e.stream) (sym state_is) ∙ action_found e.table state e.stream x is in
        ap (going R (n - 1)) New-is ∙ sym (steps_on R e more (Ok x.action) is-found n some)

    pub shifts_so : {to : ℕ} → x.action ≡ Shift to → new ≡ shifting R to (looked stream) (listed x.next) →
        going R (n - 1) new ≡ going R n e
    shifts_so {to} a-is New-is =
        let next = next_found e.table state e.stream x is (λ p r. clash (cc)) in
        made_so
        (New-is
        ∙ ap₂ (λ s o. shifting R to (looked s) (listed o)) same next
        ∙ shift_first R to e e.stream.tokens
        ∙ ap (λ a. step_by R e (Ok a)) (sym a-is))

    pub reduces_so : {p : ℕ} → x.action ≡ Reduce p → new ≡ reducing R p (e.table.grammar p) (looked stream) →
        going R (n - 1) new ≡ going R n e
    reduces_so {p} a-is New-is =
        made_so
        (New-is
        ∙ ap (λ s. reducing R p (e.table.grammar p) (looked s)) same
        ∙ ap (λ a. step_by R e (Ok a)) (sym a-is))
