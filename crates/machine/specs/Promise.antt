-- What is promised of every run.
use Rattle.std.specs.Prelude.{◌≡◌, ℕ, ◌≤◌, ◌↔◌, List, [], ◌∷◌, ◌++◌, length, Ok, Err, Option, ◌≢◌}
use Rattle.syntax.specs.declared.Token.{Token}
use Rattle.syntax.specs.Grammar.{Kinded}
use Rattle.syntax.specs.Trees.{Tree, TreeOf, Makes, size}
use Rattle.syntax.specs.Values.{Algebra, read}
use Rattle.table.specs.Lawful.{Lawful}
use Rattle.table.specs.Validity.{Valid}
use Rattle.source.specs.Streams.{end}
use Rattle.sink.specs.declared.SinkFault.TheVariants.{TooFewTrees}
use Rattle.outcome.specs.declared.Halt.TheVariants.{Sink, Slip}
use Rattle.outcome.specs.declared.Outcome.TheVariants.{Accepted, Rejected, Halted}
use Rattle.outcome.specs.declared.Declined.{Declined}
use Rattle.outcome.specs.declared.Call.{Call}
use Rattle.outcome.specs.declared.Report.{Report}
use Rattle.machine.specs.Reading.{State, most_cells, most_steps, place_of_next}
use Rattle.machine.specs.Calls.{called, answer, report}
use Rattle.machine.specs.Runs.{Run, then_call, after, grant, Fits}
use Rattle.table.specs.declared.Slip.{Slip as WhySlip}

-- the run has read its whole text into r, as one tree behind what the sink had at new, in as many steps as its size
pub record ReadWhole {V : Type 0} (R : Algebra V) (run : Run V) (r : State V) : Type 0 where
  pub has_ended : run.stream.ending ≡ end
  pub tree : Tree
  pub of_text : TreeOf run.table.grammar run.stream.tokens tree
  pub list_is : r.stack.list ≡ run.stack.list ++ (read R tree ∷ [])
  pub steps_are : r.steps ≡ size tree

-- what r refused, at place p, cannot follow what it took: the next token, or END where none is to come
pub record Hopeless {V : Type 0} (run : Run V) (r : State V) (p : Option ℕ) : Type 0 where
  pub taken : List Token
  pub text_is : run.stream.tokens ≡ taken ++ r.stream.tokens
  pub place_is : p ≡ place_of_next r.stream.tokens
  pub token_refused : (t : Token) (ts : List Token) → r.stream.tokens ≡ t ∷ ts →
      (w : List Token) → Makes run.table.grammar (taken ++ (t ∷ w)) → ⊥
  pub end_refused : r.stream.tokens ≡ [] →
      (run.stream.ending ≡ end) × (Makes run.table.grammar taken → ⊥)

-- a tree of the text that fits
abbrev pub FittingTree : {V : Type 0} → Run V → Type 0
FittingTree run = (t : Tree) × TreeOf run.table.grammar run.stream.tokens t × Fits run t

-- what is promised of the run
pub record Promised (states : ℕ) {V : Type 0} (R : Algebra V) (run : Run V) : Type 0 where
  -- on every lawful table
  pub accepts_trees : (after R run).outcome ≡ Accepted → ReadWhole R run (after R run)
  -- on every valid table
  pub one_tree : Valid states run.table → (w : List Token) (t u : Tree) →
      TreeOf run.table.grammar w t → TreeOf run.table.grammar w u → t ≡ u
  pub accepts_what_fits : Valid states run.table → ((after R run).outcome ≡ Accepted) ↔ FittingTree run
  pub never_slips : Valid states run.table → (k : WhySlip) → (after R run).outcome ≢ Halted (Slip k)
  pub rejects_hopeless : Valid states run.table →
      (p : Option ℕ) → (after R run).outcome ≡ Rejected p → Hopeless run (after R run) p

-- the promise of runs, over values of type V
abbrev pub Promise : Type 0 → Type 0
Promise V = (states : ℕ) (R : Algebra V) (run : Run V) →
    Lawful states run.table → Kinded run.stream.tokens → Promised states R run

-- what a run never exceeds or changes; behind the values at new there is one for each cell
pub record Bounded {V : Type 0} (run : Run V) (r : State V) : Type 0 where
  pub table_kept : r.table ≡ run.table
  pub ending_kept : r.stream.ending ≡ run.stream.ending
  pub tokens_left : (taken : List Token) × (run.stream.tokens ≡ taken ++ r.stream.tokens)
  pub steps_granted : r.steps ≤ grant run
  pub grant_bounded : grant run ≤ most_steps
  pub cells_bounded : length r.cells ≤ most_cells
  pub list_grown : (vs : List V) × (r.stack.list ≡ run.stack.list ++ vs) × (length vs ≡ length r.cells)
  pub enough_trees : (n : ℕ) → r.outcome ≢ Halted (Sink (TooFewTrees n))

-- so it is of every run
abbrev pub Bounds : Type 0 → Type 0
Bounds V = (R : Algebra V) (run : Run V) → Bounded run (after R run)

-- a declined call changes nothing, and any other tells how the reading stands after it
pub record TrueAnswer {V : Type 0} (R : Algebra V) (c : Call) (r : State V) : Type 0 where
  pub declined_unmoved : (d : Declined) → answer R c r ≡ Err d → called R c r ≡ r
  pub told_truly : (x : Report) → answer R c r ≡ Ok x → x ≡ report (called R c r)

-- so it is of every call on every reading
abbrev pub AnswersTruly : Type 0 → Type 0
AnswersTruly V = (R : Algebra V) (c : Call) (r : State V) → TrueAnswer R c r

-- a run with one call more leads to what the call makes of where the run led
abbrev pub OneCallMore : Type 0 → Type 0
OneCallMore V = (R : Algebra V) (run : Run V) (c : Call) → after R (then_call run c) ≡ called R c (after R run)
