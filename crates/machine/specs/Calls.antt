-- Calls on a reading: which are declined, what the others do, and what each answers.
use Rattle.std.specs.Prelude.{ℕ, ◌+◌, cond, List, [], ◌∷◌, Some, None, Ok, Err, Option, Result, nat_le}
use Rattle.syntax.specs.Values.{Algebra}
use Rattle.outcome.specs.declared.Outcome.{Outcome}
use Rattle.outcome.specs.declared.Outcome.TheVariants.{Stopped}
use Rattle.outcome.specs.declared.Declined.{Declined}
use Rattle.outcome.specs.declared.Declined.TheVariants.{Ended, TooManySteps, BeforeEnd}
use Rattle.outcome.specs.declared.Call.{Call}
use Rattle.outcome.specs.declared.Call.TheVariants.{Turn, Stop, Mark, Report as Tell}
use Rattle.outcome.specs.declared.Report.{Report}
use Rattle.outcome.specs.Numbers.{ended}
use Rattle.machine.specs.Reading.{State, with_outcome, most_steps, spend}

module _ {V : Type 0} where
  -- an ended reading takes neither a turn nor a stop, and one that has not ended takes no mark, nor a turn that could
  -- bring the steps above the most
  abbrev pub declined : Call → State V → Option Declined
  declined (Turn n) r =
      cond (ended r.outcome) (Some (Ended r.steps))
      (cond (nat_le (r.steps + n) most_steps) None (Some (TooManySteps r.steps)))
  declined Tell r = None
  declined Stop r = cond (ended r.outcome) (Some (Ended r.steps)) None
  declined Mark r = cond (ended r.outcome) None (Some (BeforeEnd r.steps))

  -- what a report tells
  abbrev pub report : State V → Report
  report r = record { outcome = r.outcome; steps = r.steps }

  -- f, unless it is declined
  abbrev pub unless : Option Declined → (State V → State V) → State V → State V
  unless None f r = f r
  unless (Some d) f r = r

-- x, unless it is declined
abbrev pub or_declined : {A : Type 0} → Option Declined → A → Result A Declined
or_declined None x = Ok x
or_declined (Some d) x = Err d

module _ {V : Type 0} (R : Algebra V) where
  -- what a call does that is not declined
  abbrev pub done : Call → State V → State V
  done (Turn n) r = spend R n r
  done Tell r = r
  done Stop r = with_outcome r Stopped
  done Mark r = r

  -- the reading after a call
  abbrev pub called : Call → State V → State V
  called c r = unless (declined c r) (λ s. done c s) r

  -- the reading after calls, one after the other
  abbrev pub after_calls : List Call → State V → State V
  after_calls [] r = r
  after_calls (c ∷ cs) r = after_calls cs (called c r)

  -- what a call tells: how the reading then stands, or why it was declined
  abbrev pub answer : Call → State V → Result Report Declined
  answer c r = or_declined (declined c r) (report (called c r))

  -- what the calls of the interface answer of that
  abbrev pub turn_answer : ℕ → State V → Result Outcome Declined
  turn_answer n r = or_declined (declined (Turn n) r) (called (Turn n) r).outcome

  abbrev pub stop_answer : State V → Result (Unit {0}) Declined
  stop_answer r = or_declined (declined Stop r) tt

  abbrev pub mark_answer : State V → Result Report Declined
  mark_answer r = or_declined (declined Mark r) (report r)
