-- The number and the place that belong to every case of an answer, and the layer where a source tells it.
use Rattle.std.specs.Prelude.{ℕ, Bool, true, false, Some, None, Option}
use Rattle.source.specs.Faults as source
use Rattle.sink.specs.Faults as sink
use Rattle.table.specs.Slips as slip
use Rattle.outcome.specs.declared.Halt.{Halt}
use Rattle.outcome.specs.declared.Halt.TheVariants.{Source, Sink, Cells, Slip}
use Rattle.outcome.specs.declared.Outcome.{Outcome}
use Rattle.outcome.specs.declared.Outcome.TheVariants.{More, Accepted, Rejected, Halted, Stopped}
use Rattle.outcome.specs.declared.Declined.{Declined}
use Rattle.outcome.specs.declared.Declined.TheVariants.{Ended, TooManySteps, BeforeEnd}

-- what a case tells
pub record Notice : Type 0 where
  pub number : ℕ
  pub place : ℕ
  pub layer : Option ℕ

-- a source's or a sink's fault is told as it is; cells run out at the steps made, and a slip is at its own number
abbrev pub of_halt : Halt → Notice
of_halt (Source f) = record { number = source.number f; place = source.place f; layer = Some (source.layer f) }
of_halt (Sink f) = record { number = sink.number f; place = sink.place f; layer = None }
of_halt (Cells n) = record { number = 22; place = n; layer = None }
of_halt (Slip s) = record { number = 25; place = slip.number s; layer = None }

-- a call is declined at the steps made
abbrev pub of_declined : Declined → Notice
of_declined (TooManySteps n) = record { number = 19; place = n; layer = None }
of_declined (Ended n) = record { number = 21; place = n; layer = None }
of_declined (BeforeEnd n) = record { number = 26; place = n; layer = None }

-- a rejection is at the refused token, END at no place; a halt is where its fault is
abbrev pub place_of : Outcome → Option ℕ
place_of More = None
place_of Accepted = None
place_of (Rejected p) = p
place_of (Halted h) = Some (of_halt h).place
place_of Stopped = None

-- a reading that has ended makes no further step
abbrev pub ended : Outcome → Bool
ended More = false
ended Accepted = true
ended (Rejected p) = true
ended (Halted h) = true
ended Stopped = true
