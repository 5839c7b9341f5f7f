-- The reading: a table's machine within bounds, from a source that may end in a fault, into a sink that may refuse.
use Rattle.std.specs.Prelude.{ℕ, zero, suc, ◌+◌, ◌-◌, Bool, true, false, cond, List, [], ◌∷◌, ◌++◌, length, Some, None, Ok, Err, Option, Result, nat_le, slice_index}
use Rattle.syntax.specs.declared.Token.{Token}
use Rattle.syntax.specs.Grammar.{Rule}
use Rattle.syntax.specs.Values.{Algebra}
use Rattle.table.specs.declared.Action.{Action}
use Rattle.table.specs.declared.Action.TheVariants.{Shift, Reduce, Accept, Reject}
use Rattle.table.specs.Automaton.{Automaton}
use Rattle.theory.specs.Machine.{carry_start, landing}
use Rattle.source.specs.declared.SourceFault.{SourceFault}
use Rattle.source.specs.Streams.{Stream, answer, dropped}
use Rattle.sink.specs.declared.SinkFault.{SinkFault}
use Rattle.sink.specs.Stacks.{Stack, front, back, leaf_answer, leaf_after, node_answer, node_after}
use Rattle.outcome.specs.declared.Halt.{Halt}
use Rattle.outcome.specs.declared.Halt.TheVariants.{Source, Sink, Cells, Slip}
use Rattle.outcome.specs.declared.Outcome.{Outcome}
use Rattle.outcome.specs.declared.Outcome.TheVariants.{More, Accepted, Rejected, Halted}
use Rattle.outcome.specs.Numbers.{ended}
use Rattle.table.specs.declared.Slip.{Slip as WhySlip}
use Rattle.table.specs.declared.Slip.TheVariants.{FewCells, AtEnd}

-- how many cells there are, and how many steps a reading makes at most
abbrev pub most_cells : ℕ
most_cells = 128

abbrev pub most_steps : ℕ
most_steps = 1000000000000

-- how a reading stands
pub record State (V : Type 0) : Type 0 where
  pub table : Automaton
  -- a state each, the oldest first: the used places at the front of an array
  pub cells : List ℕ
  pub stack : Stack V
  pub stream : Stream
  -- all those made since the reading was new
  pub steps : ℕ
  pub outcome : Outcome

-- the last cell, else the initial state
abbrev pub last_of : List ℕ → ℕ
last_of ss = slice_index ss (length ss - 1)

-- where a rejection is: at the next token, for END at no place
abbrev pub place_of_next : List Token → Option ℕ
place_of_next [] = None
place_of_next (t ∷ ts) = Some t.place

module _ {V : Type 0} where
  -- all as it is, with another outcome
  abbrev pub with_outcome : State V → Outcome → State V
  with_outcome r o = record {
    table = r.table;
    cells = r.cells;
    stack = r.stack;
    stream = r.stream;
    steps = r.steps;
    outcome = o;
  }

  -- the same, halted
  abbrev pub halt : State V → Halt → State V
  halt r h = with_outcome r (Halted h)

-- first the action is found

-- the action on what a peek answers
abbrev pub peeked : (ℕ → Action) → Result (Option Token) SourceFault → Result Action SourceFault
peeked act (Err f) = Err f
peeked act (Ok None) = Ok (act 0)
peeked act (Ok (Some t)) = Ok (act t.kind)

-- the reduction of a default goes before it
abbrev pub unless_default : Option ℕ → Result Action SourceFault → Result Action SourceFault
unless_default None x = x
unless_default (Some p) x = Ok (Reduce p)

-- the action in state s, or the source's fault; a state with a default does not look at the source
abbrev pub found : Automaton → ℕ → Stream → Result Action SourceFault
found M s stream = unless_default (M.default s) (peeked (M.action s) (answer stream))

module _ {V : Type 0} where
  -- what is found where the reading stands
  abbrev pub found_in : State V → Result Action SourceFault
  found_in r = found r.table (last_of r.cells) r.stream

  -- a fault, a reject and an accept end the reading and cost nothing, also where no step is left; an accept wants one
  -- cell, which the start entered
  abbrev pub settled : State V → Result Action SourceFault → Outcome
  settled r (Err f) = Halted (Source f)
  settled r (Ok (Shift t)) = More
  settled r (Ok (Reduce p)) = More
  settled r (Ok Accept) = cond (carry_start r.table r.cells) Accepted (Halted (Slip AtEnd))
  settled r (Ok Reject) = Rejected (place_of_next r.stream.tokens)

  -- what is done where no step is left
  abbrev pub look : State V → State V
  look r = with_outcome r (settled r (found_in r))

  -- then a step is made

  -- one step on
  abbrev pub stepped : List ℕ → Stack V → Stream → State V → State V
  stepped ss stack stream r = record {
    table = r.table;
    cells = ss;
    stack = stack;
    stream = stream;
    steps = r.steps + 1;
    outcome = More;
  }

  -- the step where the sink takes its event, else a halt
  abbrev pub sent_to : Result (Unit {0}) SinkFault → State V → State V → State V
  sent_to (Ok u) r next = next
  sent_to (Err f) r next = halt r (Sink f)

  -- a cell more than there are, then the sink's refusal, leaves all as it was
  abbrev pub if_room : Result (Unit {0}) SinkFault → State V → State V → State V
  if_room answer r next =
      cond (nat_le (length next.cells) most_cells) (sent_to answer r next) (halt r (Cells r.steps))

-- where a reduce by `rule` leads from cells: a state, or the first slip of too few cells, a wrong symbol and no goto
abbrev pub landing_from : Automaton → Rule → List ℕ → Result ℕ WhySlip
landing_from M rule ss =
    let k = length rule.right in
    landing M rule (nat_le k (length ss)) (back k ss) (last_of (front k ss))

module _ {V : Type 0} (R : Algebra V) where
  -- the leaf is sent, the token taken, the state pushed (at END, where no lawful table shifts, it slips)
  abbrev pub shifting : ℕ → State V → List Token → State V
  shifting t r [] = halt r (Slip AtEnd)
  shifting t r (k ∷ ks) =
      let stack = leaf_after R k r.stack in
      if_room (leaf_answer r.stack) r (stepped (r.cells ++ (t ∷ [])) stack (dropped r.stream) r)

  -- the node is sent, its children's states popped, the goto pushed
  abbrev pub going : ℕ → ℕ → State V → Result ℕ WhySlip → State V
  going p k r (Err n) = halt r (Slip n)
  going p k r (Ok t) =
      let stack = node_after R p k r.stack in
      if_room (node_answer k r.stack) r (stepped (front k r.cells ++ (t ∷ [])) stack r.stream r)

  -- a reduce by production p, which a lawful table has
  abbrev pub reducing : ℕ → Option Rule → State V → State V
  reducing p None r = halt r (Slip FewCells)
  reducing p (Some rule) r = going p (length rule.right) r (landing_from r.table rule r.cells)

  -- what the action found makes of the reading
  abbrev pub step_by : State V → Result Action SourceFault → State V
  step_by r (Err f) = with_outcome r (settled r (Err f))
  step_by r (Ok (Shift t)) = shifting t r r.stream.tokens
  step_by r (Ok (Reduce p)) = reducing p (r.table.grammar p) r
  step_by r (Ok Accept) = with_outcome r (settled r (Ok Accept))
  step_by r (Ok Reject) = with_outcome r (settled r (Ok Reject))

  -- what is done where a step is left
  abbrev pub step : State V → State V
  step r = step_by r (found_in r)

  -- f, unless the reading has ended
  abbrev pub go_on : Bool → (State V → State V) → State V → State V
  go_on true f r = r
  go_on false f r = f r

  -- up to n steps of a reading that has not ended
  abbrev pub spend : ℕ → State V → State V
  spend zero r = look r
  spend (suc n) r = let s = step r in go_on (ended s.outcome) (λ x. spend n x) s
