-- What a call makes of a reading, and what is promised of the runs that lead to it.
use Rattle.std.proofs.Common.{◌≡◌, ℕ, ◌+◌, true, false, leb, List, Some, None, Option, sym, refl, ap, ◌∙◌, subst}
use Rattle.table.specs.Lawful.{narrow}
use Rattle.table.specs.Validity.{Valid}
use Rattle.table.specs.declared.Table as tables
use Rattle.theory.proofs.Clash.{none_some}
use Rattle.source.specs.declared.Source as sources
use Rattle.sink.specs.declared.Sink as sinks
use Rattle.outcome.specs.declared.Call.{Call}
use Rattle.outcome.specs.declared.Call.TheVariants.{Turn, Stop, Mark}
use Rattle.outcome.specs.declared.Declined.{Declined}
use Rattle.outcome.specs.declared.Declined.TheVariants.{Ended as HasEnded, TooManySteps, BeforeEnd}
use Rattle.outcome.specs.Numbers.{ended}
use Rattle.machine.specs.Reading.{State, most_steps}
use Rattle.machine.specs.Calls.{declined, unless, done, called}
use Rattle.machine.specs.Runs.{Run}
use Rattle.machine.proofs.Answering.{one_call_more}
use Rattle.machine.proofs.Bounds.{bounds}
use Rattle.machine.proofs.Promise.{promise}
use Rattle.reading.specs.declared.state.Reading.{Reading}
use Rattle.reading.specs.Means.{reads, run_of, Made}
use Rattle.reading.specs.Promises.{Kept, Checked, OfRuns, Finished}

-- which calls are declined

module _ {V : Type 0} (r : State V) where
  module _ (end : ended r.outcome ≡ true) where
    pub turn_over : (n : ℕ) → declined (Turn n) r ≡ Some (HasEnded r.steps)
    turn_over n = rw end

    pub stop_over : declined Stop r ≡ Some (HasEnded r.steps)
    stop_over = rw end

    pub mark_taken : declined Mark r ≡ None
    mark_taken = rw end

  module _ (on : ended r.outcome ≡ false) where
    pub turn_excess : (n : ℕ) → leb (r.steps + n) most_steps ≡ false → declined (Turn n) r ≡ Some (TooManySteps r.steps)
    turn_excess n more = rw (on, more)

    pub turn_taken : (n : ℕ) → leb (r.steps + n) most_steps ≡ true → declined (Turn n) r ≡ None
    turn_taken n few = rw (on, few)

    pub stop_taken : declined Stop r ≡ None
    stop_taken = rw on

    pub mark_early : declined Mark r ≡ Some (BeforeEnd r.steps)
    mark_early = rw on

-- calls

unless_same : {V : Type 0} (o : Option Declined) (f : State V → State V) (r : State V) → f r ≡ r → unless o f r ≡ r
unless_same None f r same = same
unless_same (Some d) f r same = refl

module _ {T S K : Type 0} (table : tables.Ghosts T) (source : sources.Ghosts S) (sink : sinks.Ghosts K) where
  module _ (c : Call) where
    made_so : (old new : Reading T S K) →
        reads table source sink new ≡ called sink.algebra c (reads table source sink old) → new.table ≡ old.table →
        sink.grows old.sink new.sink →
        ((d : Declined) → declined c (reads table source sink old) ≡ Some d → new ≡ old) →
        Made table source sink c old new
    made_so old new as_called table_same grown unless-declined = record {
      as_called = as_called;
      table_same = table_same;
      memory_kept = grown;
      declined_same = unless-declined;
      run_goes_on = λ run at.
          one_call_more sink.Value sink.algebra run c ∙ ap (called sink.algebra c) at ∙ sym as_called;
    }

    -- a call that was not declined
    pub made : (old new : Reading T S K) → declined c (reads table source sink old) ≡ None →
        reads table source sink new ≡ done sink.algebra c (reads table source sink old) →
        new.table ≡ old.table → sink.grows old.sink new.sink → Made table source sink c old new
    made old new taken is table_same grown =
        let e = reads table source sink old in
        made_so old new (is ∙ sym (ap (λ d. unless d (λ s. done sink.algebra c s) e) taken)) table_same grown
        (λ d bad. absurd (none_some (sym taken ∙ bad)))

    -- a call that changes nothing
    unmade : (r : Reading T S K) →
        called sink.algebra c (reads table source sink r) ≡ reads table source sink r → Made table source sink c r r
    unmade r same = made_so r r (sym same) refl (sink.still r.sink) (λ d bad. refl)

    -- as one that was declined
    pub declined_so : (r : Reading T S K) (d : Declined) → declined c (reads table source sink r) ≡ Some d →
        Made table source sink c r r
    declined_so r d is =
        unmade r (ap (λ x. unless x (λ s. done sink.algebra c s) (reads table source sink r)) is)

  -- a report and a mark change nothing
  pub told_so : (c : Call) (r : Reading T S K) →
      ((x : State sink.Value) → done sink.algebra c x ≡ x) → Made table source sink c r r
  told_so c r same =
      let e = reads table source sink r in
      unmade c r (unless_same (declined c e) (λ s. done sink.algebra c s) e (same e))

  -- runs

  module _ (t : T) (s : S) (k : K) (calls : List Call) where
    abbrev run : Run sink.Value
    run = run_of table source sink t s k calls

    -- the promise of runs, from what the table and the source of the start promise
    pub kept_of : Kept sink.algebra run
    kept_of = record {
      promised = promise sink.Value narrow sink.algebra run (table.lawful t) (source.kinded s);
      bounded = bounds sink.Value sink.algebra run;
    }

    -- the same by a valid table
    pub checked_of : Valid narrow (table.meaning t) → Checked sink.algebra run
    checked_of valid = record {
      accepts_trees = kept_of.promised.accepts_trees;
      one_tree = kept_of.promised.one_tree valid;
      accepts_what_fits = kept_of.promised.accepts_what_fits valid;
      never_slips = kept_of.promised.never_slips valid;
      rejects_hopeless = kept_of.promised.rejects_hopeless valid;
      bounded = kept_of.bounded;
    }

  module _ (r : Reading T S K) where
    pub kept : OfRuns table source sink (Kept sink.algebra) r
    kept t s k calls at = kept_of t s k calls

    -- the table that is there is the one of the start
    pub checked : Valid narrow (table.meaning r.table) → OfRuns table source sink (Checked sink.algebra) r
    checked valid t s k calls at =
        let same = sym (ap (λ (x : State sink.Value). x.table) at) ∙ (kept_of t s k calls).bounded.table_kept in
        checked_of t s k calls (subst (Valid narrow) same valid)

    -- the same of what is handed back
    pub finished : OfRuns table source sink (Finished table source sink r.table r.source r.sink) r
    finished t s k calls at = record {
      kept = kept_of t s k calls;
      parts = record {
        table_is = sym (ap (λ (x : State sink.Value). x.table) at);
        stream_is = sym (ap (λ (x : State sink.Value). x.stream) at);
        stack_is = sym (ap (λ (x : State sink.Value). x.stack) at);
      };
    }
