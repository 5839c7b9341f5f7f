-- Runs: what stood at new, the calls made since, and what these allow.
use Rattle.std.specs.Prelude.{◌≡◌, ℕ, ◌+◌, ◌≤◌, cond, List, [], ◌∷◌, ◌++◌, nat_le}
use Rattle.syntax.specs.Trees.{Tree, size, reach}
use Rattle.syntax.specs.Values.{Algebra}
use Rattle.table.specs.Automaton.{Automaton}
use Rattle.source.specs.Streams.{Stream, end}
use Rattle.sink.specs.Stacks.{Stack, Count, endless, limited}
use Rattle.outcome.specs.declared.Outcome.TheVariants.{More}
use Rattle.outcome.specs.declared.Call.{Call}
use Rattle.outcome.specs.declared.Call.TheVariants.{Turn, Stop, Mark, Report as Tell}
use Rattle.machine.specs.Reading.{State, most_cells, most_steps}
use Rattle.machine.specs.Calls.{after_calls}

-- what stood at new, and all calls since, the first one first
pub record Run (V : Type 0) : Type 0 where
  pub table : Automaton
  pub stream : Stream
  pub stack : Stack V
  pub calls : List Call

module _ {V : Type 0} where
  -- a new reading: no cell used, no step made
  abbrev pub new : Automaton → Stream → Stack V → State V
  new M stream stack = record {
    table = M;
    cells = [];
    stack = stack;
    stream = stream;
    steps = 0;
    outcome = More;
  }

  -- the run with one call more
  abbrev pub then_call : Run V → Call → Run V
  then_call run c = record {
    table = run.table;
    stream = run.stream;
    stack = run.stack;
    calls = run.calls ++ (c ∷ []);
  }

  -- the reading at the end of a run
  abbrev pub after : Algebra V → Run V → State V
  after R run = after_calls R run.calls (new run.table run.stream run.stack)

-- what calls grant beyond g: until the first stop each turn adds its steps, unless that brings the sum above the most
abbrev pub granted : ℕ → List Call → ℕ
granted g [] = g
granted g (Turn n ∷ cs) = granted (cond (nat_le (g + n) most_steps) (g + n) g) cs
granted g (Tell ∷ cs) = granted g cs
granted g (Stop ∷ cs) = g
granted g (Mark ∷ cs) = granted g cs

-- how many steps the calls of a run grant
abbrev pub grant : {V : Type 0} → Run V → ℕ
grant run = granted 0 run.calls

-- n is within a count
abbrev pub AtMost : ℕ → Count → Type 0
AtMost n endless = Unit {0}
AtMost n (limited m) = n ≤ m

-- a run has what reading the tree t takes
pub record Fits {V : Type 0} (run : Run V) (t : Tree) : Type 0 where
  pub has_ended : run.stream.ending ≡ end
  pub in_grant : size t ≤ grant run
  pub in_records : AtMost (size t) run.stack.records
  pub in_cells : reach t ≤ most_cells
  pub in_sink : AtMost (reach t) run.stack.cells
