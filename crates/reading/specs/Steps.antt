-- What the inner functions of a turn answer.
use Rattle.std.specs.Prelude.{◌≡◌, ℕ, ◌+◌, ◌-◌, Bool, true, false, ◌&&◌, List, [], ◌∷◌, length, Some, None, Ok, Err, Option, Result}
use Rattle.syntax.specs.declared.Token.{Token}
use Rattle.syntax.specs.declared.Symbol.{Symbol}
use Rattle.syntax.specs.Grammar.{Rule}
use Rattle.syntax.specs.Values.{Algebra}
use Rattle.table.specs.declared.Action.{Action}
use Rattle.table.specs.declared.Slip.{Slip as WhySlip}
use Rattle.table.specs.declared.Slip.TheVariants.{FewCells}
use Rattle.table.specs.declared.Action.TheVariants.{Reduce}
use Rattle.table.specs.Automaton.{Automaton, symbol_at}
use Rattle.theory.specs.Machine.{same_symbol}
use Rattle.source.specs.declared.SourceFault.{SourceFault}
use Rattle.source.specs.Streams.{Stream, answer}
use Rattle.sink.specs.declared.Sink as sinks
use Rattle.outcome.specs.declared.Halt.{Halt}
use Rattle.outcome.specs.declared.Halt.TheVariants.{Source, Slip}
use Rattle.outcome.specs.Numbers.{ended}
use Rattle.machine.specs.Reading.{State, landing_from, halt, stepped, go_on, spend}
use Rattle.reading.specs.declared.steps.Found.{Found}
use Rattle.reading.specs.declared.steps.Landing.{Landing}
use Rattle.reading.specs.declared.state.Reading.{Reading}

-- the token, if there is one
abbrev pub listed : Option Token → List Token
listed None = []
listed (Some t) = t ∷ []

-- the terminal that comes next; END is 0
abbrev pub kind_of : Option Token → ℕ
kind_of None = 0
kind_of (Some t) = t.kind

-- the action on what a peek answers, and the token that it was found on
abbrev pub seen : (ℕ → Action) → Result (Option Token) SourceFault → Result Found Halt
seen act (Err f) = Err (Source f)
seen act (Ok o) = Ok (record { action = act (kind_of o); next = o })

-- the reduction of a default goes before it
abbrev pub unless_default : Option ℕ → Result Found Halt → Result Found Halt
unless_default None x = x
unless_default (Some p) x = Ok (record { action = Reduce p; next = None })

-- what is found to do in state s
abbrev pub finding : Automaton → ℕ → Stream → Result Found Halt
finding M s stream = unless_default (M.default s) (seen (M.action s) (answer stream))

-- a state that the one symbol enters, if any, is entered by the other
abbrev pub is_entered : Option Symbol → Option Symbol → Bool
is_entered None wanted = false
is_entered (Some X) None = false
is_entered (Some X) (Some Y) = same_symbol X Y

-- states are entered, one for one and in order, by the right symbols of production p from k on
abbrev pub carrying : Automaton → ℕ → ℕ → List ℕ → Bool
carrying M p k [] = true
carrying M p k (s ∷ ss) = is_entered (M.incoming s) (symbol_at (M.grammar p) k) && carrying M p (k + 1) ss

-- a slip, or the state t behind all but the last k cells
abbrev pub landed : ℕ → Result ℕ WhySlip → Result Landing Halt
landed k (Err why) = Err (Slip why)
landed k (Ok t) = Ok (record { children = k; to = t })

abbrev pub landed_by : Automaton → Option Rule → List ℕ → Result Landing Halt
landed_by M None ss = Err (Slip FewCells)
landed_by M (Some rule) ss = landed (length rule.right) (landing_from M rule ss)

-- where a reduce by production p leads from cells
abbrev pub landing_by : Automaton → ℕ → List ℕ → Result Landing Halt
landing_by M p ss = landed_by M (M.grammar p) ss

module _ {V : Type 0} where
  -- a step is counted
  abbrev pub one_more : State V → State V
  one_more r = stepped r.cells r.stack r.stream r

  -- a halt is noted last
  abbrev pub noted : {A : Type 0} → Result A Halt → State V → State V
  noted (Ok x) r = r
  noted (Err h) r = halt r h

  -- a step that was made is counted, or its halt is noted
  abbrev pub counted : {A : Type 0} → Result A Halt → State V → State V
  counted (Ok x) r = one_more r
  counted (Err h) r = halt r h

module _ {V : Type 0} (R : Algebra V) where
  -- up to n steps, unless the reading has ended
  abbrev pub going : ℕ → State V → State V
  going n r = go_on R (ended r.outcome) (λ s. spend R n s) r

  -- what is still to be done of n steps, when one was made, and is to be counted, or not
  abbrev pub onward : ℕ → Result Bool Halt → State V → State V
  onward n (Ok true) r = going (n - 1) (one_more r)
  onward n (Ok false) r = r
  onward n (Err h) r = halt r h

-- what a step keeps of a reading until it is counted
pub record Near {T S K : Type 0} (sink : sinks.Ghosts K) (old new : Reading T S K) : Type 0 where
  pub table_same : new.table ≡ old.table
  pub memory_kept : sink.grows old.sink new.sink
  pub steps_same : new.steps ≡ old.steps
