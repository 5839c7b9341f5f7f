-- Readings by the practice table, worked out: what a list of calls answers, and what the sink then holds.
use Rattle.std.specs.Prelude.{◌≡◌, ℕ, List, [], ◌∷◌, ◌++◌, length, replicate, Some, None, Ok, Err, Result}
use Rattle.syntax.specs.declared.Token.{Token}
use Rattle.syntax.specs.Trees.{Tree, leaf, node, no_tree, tree_then, text, size, reach}
use Rattle.syntax.specs.Values.{Algebra, read}
use Rattle.theory.specs.Practice.{practice}
use Rattle.source.specs.declared.SourceFault.TheVariants.{UnknownByte}
use Rattle.source.specs.Streams.{end, fault, Stream}
use Rattle.sink.specs.declared.SinkFault.TheVariants.{Full, TooFewTrees}
use Rattle.sink.specs.Stacks.{Stack, endless, limited}
use Rattle.outcome.specs.declared.Halt.TheVariants.{Source, Sink, Cells, Slip}
use Rattle.outcome.specs.declared.Outcome.{Outcome}
use Rattle.outcome.specs.declared.Outcome.TheVariants.{More, Accepted, Rejected, Halted, Stopped}
use Rattle.outcome.specs.declared.Declined.{Declined}
use Rattle.outcome.specs.declared.Declined.TheVariants.{Ended, TooManySteps, BeforeEnd}
use Rattle.outcome.specs.declared.Call.{Call}
use Rattle.outcome.specs.declared.Call.TheVariants.{Turn, Stop, Mark, Report as Tell}
use Rattle.outcome.specs.declared.Report.{Report}
use Rattle.machine.specs.Reading.{State}
use Rattle.machine.specs.Calls.{called, after_calls, answer}
use Rattle.machine.specs.Runs.{new}
use Rattle.table.specs.declared.Slip.TheVariants.{FewCells, WrongSymbol, NoGoto, AtEnd}

-- a value is the events, in postfix, by which its tree is sent: a leaf with its kind and place, a node with its
-- production and how many children it has
pub data Event : Type 0 where
  L : ℕ → ℕ → Event
  N : ℕ → ℕ → Event

abbrev joined : List (List Event) → List Event
joined [] = []
joined (e ∷ es) = e ++ joined es

abbrev pub events : Algebra (List Event)
events = record {
  leaf_rule = λ t. L t.kind t.place ∷ [];
  node_rule = λ p vs. joined vs ++ (N p (length vs) ∷ []);
}

-- what each of the calls answers
abbrev pub answers : List Call → State (List Event) → List (Result Report Declined)
answers [] r = []
answers (c ∷ cs) r = answer events c r ∷ answers cs (called events c r)

abbrev pub tells : Outcome → ℕ → Result Report Declined
tells o n = Ok (record { outcome = o; steps = n })

-- a whole run: what the calls on a new reading answer, and the sink's list afterwards
pub record Row : Type 0 where
  pub stream : Stream
  pub stack : Stack (List Event)
  pub calls : List Call
  pub says : List (Result Report Declined)
  pub list : List (List Event)

abbrev pub start_of : Row → State (List Event)
start_of x = new practice x.stream x.stack

-- each row by the machine, and by hand
abbrev pub by_machine : List Row → List (List (Result Report Declined) × List (List Event))
by_machine [] = []
by_machine (x ∷ xs) =
    (answers x.calls (start_of x), (after_calls events x.calls (start_of x)).stack.list) ∷ by_machine xs

abbrev pub by_hand : List Row → List (List (Result Report Declined) × List (List Event))
by_hand [] = []
by_hand (x ∷ xs) = (x.says, x.list) ∷ by_hand xs

-- words, a number, and sinks

abbrev pub word_on : Token
word_on = record { kind = 1; place = 0; length = 2; value = 28526 }

abbrev pub word_off : Token
word_off = record { kind = 1; place = 3; length = 3; value = 7300710 }

abbrev pub five : Token
five = record { kind = 2; place = 3; length = 1; value = 5 }

abbrev pub plan : List Token → Stream
plan w = record { tokens = w; ending = end }

abbrev pub on_off : Stream
on_off = plan (word_on ∷ word_off ∷ [])

abbrev pub roomy : Stack (List Event)
roomy = record { list = []; records = endless; cells = endless }

-- the events of `on`, and of `on off`
abbrev pub on_events : List Event
on_events = N 0 0 ∷ L 1 0 ∷ N 1 2 ∷ []

abbrev pub on_off_events : List Event
on_off_events = N 0 0 ∷ L 1 0 ∷ N 1 2 ∷ L 1 3 ∷ N 1 2 ∷ []

abbrev pub rows : List Row
rows =
    -- the empty plan
    record {
      stream = plan [];
      stack = roomy;
      calls = Turn 9 ∷ [];
      says = tells Accepted 1 ∷ [];
      list = (N 0 0 ∷ []) ∷ [];
    }
    -- `on off` in one turn
    ∷ record {
      stream = on_off;
      stack = roomy;
      calls = Turn 65535 ∷ Mark ∷ [];
      says = tells Accepted 5 ∷ tells Accepted 5 ∷ [];
      list = on_off_events ∷ [];
    }
    -- in turns of 4, 0 and 1, with calls that are declined
    ∷ record {
      stream = on_off;
      stack = roomy;
      calls = Turn 4 ∷ Turn 0 ∷ Mark ∷ Turn 1 ∷ Turn 1 ∷ Stop ∷ Tell ∷ [];
      says =
          tells More 4 ∷ tells More 4 ∷ Err (BeforeEnd 4) ∷ tells Accepted 5 ∷ Err (Ended 5) ∷ Err (Ended 5)
          ∷ tells Accepted 5 ∷ [];
      list = on_off_events ∷ [];
    }
    -- `on 5`
    ∷ record {
      stream = plan (word_on ∷ five ∷ []);
      stack = roomy;
      calls = Turn 9 ∷ [];
      says = tells (Rejected (Some 3)) 3 ∷ [];
      list = on_events ∷ [];
    }
    -- `on !`: the fault behind `on` is told only when it is looked at
    ∷ record {
      stream = record { tokens = word_on ∷ []; ending = fault (UnknownByte 3 0) };
      stack = roomy;
      calls = Turn 2 ∷ Turn 1 ∷ [];
      says = tells More 2 ∷ tells (Halted (Source (UnknownByte 3 0))) 3 ∷ [];
      list = on_events ∷ [];
    }
    -- a sink with room for four events
    ∷ record {
      stream = on_off;
      stack = record { list = []; records = limited 4; cells = endless };
      calls = Turn 9 ∷ [];
      says = tells (Halted (Sink (Full 2))) 4 ∷ [];
      list = on_events ∷ (L 1 3 ∷ []) ∷ [];
    }
    -- a sink with one cell
    ∷ record {
      stream = on_off;
      stack = record { list = []; records = endless; cells = limited 1 };
      calls = Turn 9 ∷ [];
      says = tells (Halted (Sink (Full 1))) 1 ∷ [];
      list = (N 0 0 ∷ []) ∷ [];
    }
    -- a stop
    ∷ record {
      stream = on_off;
      stack = roomy;
      calls = Turn 3 ∷ Stop ∷ Turn 9 ∷ Tell ∷ [];
      says = tells More 3 ∷ tells Stopped 3 ∷ Err (Ended 3) ∷ tells Stopped 3 ∷ [];
      list = on_events ∷ [];
    }
    ∷ []

-- one call on a reading that stands anywhere, also where no run leads
pub record Spot : Type 0 where
  pub cells : List ℕ
  pub stack : Stack (List Event)
  pub tokens : List Token
  pub steps : ℕ
  pub outcome : Outcome
  pub call : Call
  pub says : Result Report Declined

abbrev pub spot_state : Spot → State (List Event)
spot_state x = record {
  table = practice;
  cells = x.cells;
  stack = x.stack;
  stream = plan x.tokens;
  steps = x.steps;
  outcome = x.outcome;
}

abbrev pub spots_by_machine : List Spot → List (Result Report Declined)
spots_by_machine [] = []
spots_by_machine (x ∷ xs) = answer events x.call (spot_state x) ∷ spots_by_machine xs

abbrev pub spots_by_hand : List Spot → List (Result Report Declined)
spots_by_hand [] = []
spots_by_hand (x ∷ xs) = x.says ∷ spots_by_hand xs

-- of a reading that has not ended
abbrev pub spot : List ℕ → Stack (List Event) → List Token → ℕ → Call → Result Report Declined → Spot
spot ss stack w n c a =
    record { cells = ss; stack = stack; tokens = w; steps = n; outcome = More; call = c; says = a }

-- of one that has
abbrev pub ended_spot : ℕ → Outcome → Call → Result Report Declined → Spot
ended_spot n o c a =
    record { cells = []; stack = roomy; tokens = []; steps = n; outcome = o; call = c; says = a }

-- a sink that has a value for each of n cells, and one that takes no event more
abbrev pub holding : ℕ → Stack (List Event)
holding n = record { list = replicate n []; records = endless; cells = endless }

abbrev pub spent_at : ℕ → Stack (List Event)
spent_at n = record { list = replicate n []; records = limited 0; cells = endless }

abbrev pub spots : List Spot
spots =
    -- the last step of all, and one more
    spot [] roomy [] 999999999999 (Turn 1) (tells Accepted 1000000000000)
    ∷ spot [] roomy [] 999999999999 (Turn 2) (Err (TooManySteps 999999999999))
    -- an ended reading says that it has ended before it says that
    ∷ ended_spot 999999999999 Accepted (Turn 2) (Err (Ended 999999999999))
    -- the last cell, and one more, which is told before the full sink
    ∷ spot (replicate 127 1) (spent_at 127) (word_on ∷ []) 7 (Turn 1) (tells (Halted (Sink (Full 127))) 7)
    ∷ spot (replicate 128 1) (spent_at 128) (word_on ∷ []) 7 (Turn 1) (tells (Halted (Cells 7)) 7)
    -- too few trees for the children, told before the full sink
    ∷ spot (1 ∷ 2 ∷ []) (spent_at 1) [] 7 (Turn 1) (tells (Halted (Sink (TooFewTrees 1))) 7)
    -- the four slips
    ∷ spot (2 ∷ []) (holding 1) [] 7 (Turn 1) (tells (Halted (Slip FewCells)) 7)
    ∷ spot (2 ∷ 2 ∷ []) (holding 2) [] 7 (Turn 1) (tells (Halted (Slip WrongSymbol)) 7)
    ∷ spot (1 ∷ 1 ∷ 2 ∷ []) (holding 3) [] 7 (Turn 1) (tells (Halted (Slip NoGoto)) 7)
    ∷ spot (1 ∷ 1 ∷ []) (holding 2) [] 7 (Turn 1) (tells (Halted (Slip AtEnd)) 7)
    -- with no step left an accept that slips is told, a reduce that would slip is not
    ∷ spot (1 ∷ 1 ∷ []) (holding 2) [] 7 (Turn 0) (tells (Halted (Slip AtEnd)) 7)
    ∷ spot (2 ∷ []) (holding 1) [] 7 (Turn 0) (tells More 7)
    -- so are an accept, and a reject of a token and, in a state that is none, of END
    ∷ spot (1 ∷ []) (holding 1) [] 7 (Turn 0) (tells Accepted 7)
    ∷ spot (1 ∷ []) (holding 1) (five ∷ []) 7 (Turn 0) (tells (Rejected (Some 3)) 7)
    ∷ spot (3 ∷ []) (holding 1) [] 7 (Turn 0) (tells (Rejected None) 7)
    ∷ []

-- the tree of `on off`
abbrev pub on_off_tree : Tree
on_off_tree =
    node 1 (tree_then
    (node 1 (tree_then (node 0 no_tree) (tree_then (leaf word_on) no_tree)))
    (tree_then (leaf word_off) no_tree))

pub record Marked : Type 0 where
  pub rows_hold : by_machine rows ≡ by_hand rows
  pub spots_hold : spots_by_machine spots ≡ spots_by_hand spots
  pub tree_text : text on_off_tree ≡ word_on ∷ word_off ∷ []
  pub tree_size : size on_off_tree ≡ 5
  pub tree_reach : reach on_off_tree ≡ 2
  pub tree_events : read events on_off_tree ≡ on_off_events
