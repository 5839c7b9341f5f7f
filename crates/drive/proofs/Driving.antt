-- A reading on its way through calls.
use Rattle.std.proofs.Common.{◌≡◌, ℕ, ◌+◌, ◌<◌, ◌≤◌, ◌⊎◌, List, [], length, get_or, take, sym, refl, ap, ◌∙◌, subst, ⊎_elim}
use Rattle.std.proofs.lemmas.List.{take_more, take_all}
use Rattle.table.specs.declared.Table as tables
use Rattle.source.specs.declared.Source as sources
use Rattle.sink.specs.declared.Sink as sinks
use Rattle.outcome.specs.declared.Call.{Call}
use Rattle.outcome.specs.declared.Call.TheVariants.{Mark, Report as Tell}
use Rattle.machine.specs.Reading.{State}
use Rattle.machine.specs.Calls.{report as told}
use Rattle.machine.specs.Runs.{new, after}
use Rattle.reading.specs.declared.Reading.{Reading}
use Rattle.reading.specs.Means.{run_of, Reaches, Made}
use Rattle.reading.proofs.Making.{told_so}
use Rattle.drive.specs.declared.Driven.{Driven}
use Rattle.drive.specs.Runs.{Closed, Ran}

module _ {T S K : Type 0} (table : tables.Ghosts T) (source : sources.Ghosts S) (sink : sinks.Ghosts K) where
  -- the calls lead from one reading, which was new, to the other
  pub record Driving (start : Reading T S K) (calls : List Call) (now : Reading T S K) : Type 0 where
    pub reached : Reaches table source sink (run_of table source sink start.table start.source start.sink calls) now
    pub table_same : now.table ≡ start.table
    pub memory_kept : sink.grows start.sink now.sink

  -- a report or a mark
  pub asked : (c : Call) (r : Reading T S K) → (c ≡ Tell) ⊎ (c ≡ Mark) → Made table source sink c r r
  asked c r =
      ⊎_elim
      (λ e. subst (λ (x : Call). Made table source sink x r r) (sym e) (told_so table source sink Tell r (λ _. refl)))
      (λ e. subst (λ (x : Call). Made table source sink x r r) (sym e) (told_so table source sink Mark r (λ _. refl)))

  -- of parts that are those of the start
  module _ (start : Reading T S K) {t : T} {s : S} {k : K}
      (parts : (start.table ≡ t) × (start.source ≡ s) × (start.sink ≡ k)) where
    -- no call was made yet
    pub begun : Reaches table source sink (run_of table source sink t s k []) start → Driving start [] start
    begun at = record {
      reached =
          (λ i. new (table.meaning (parts.0 i)) (source.meaning (parts.1 i)) (sink.meaning (parts.2 i))) ∙ at;
      table_same = refl;
      memory_kept = sink.still start.sink;
    }

    module _ (calls : List Call) (i : ℕ) (now : Reading T S K) (all : length calls ≤ i)
        (D : Driving start (take i calls) now) where
      -- all calls were made
      reaches : Reaches table source sink (run_of table source sink t s k calls) now
      reaches =
          sym
          (λ j. after sink.algebra
          (run_of table source sink (parts.0 j) (parts.1 j) (parts.2 j) (take_all i calls all j)))
          ∙ D.reached

      pub ran : (r : Driven T S K) → Closed table source sink now r → Ran table source sink t s k calls r
      ran r C = record {
        told_is = C.told_is ∙ ap told (sym reaches);
        parts = record {
          table_is = ap table.meaning C.table_is ∙ sym (ap (λ (x : State sink.Value). x.table) reaches);
          stream_is = ap source.meaning C.source_is ∙ sym (ap (λ (x : State sink.Value). x.stream) reaches);
          stack_is = ap sink.meaning C.sink_is ∙ sym (ap (λ (x : State sink.Value). x.stack) reaches);
        };
        table_same = C.table_is ∙ D.table_same ∙ parts.0;
        memory_kept =
            subst (λ x. sink.grows x r.sink) parts.2
            (subst (λ x. sink.grows start.sink x) (sym C.sink_is) D.memory_kept);
      }

  -- one more
  pub goes_on : (start : Reading T S K) (calls : List Call) (i : ℕ) (d : Call) (old next : Reading T S K) →
      i < length calls → Driving start (take i calls) old → Made table source sink (get_or calls i d) old next →
      Driving start (take (i + 1) calls) next
  goes_on start calls i d old next more D M = record {
    reached =
        ap (λ cs. after sink.algebra (run_of table source sink start.table start.source start.sink cs))
        (take_more calls i d more)
        ∙ M.run_goes_on (run_of table source sink start.table start.source start.sink (take i calls)) D.reached;
    table_same = M.table_same ∙ D.table_same;
    memory_kept = sink.onward start.sink old.sink next.sink D.memory_kept M.memory_kept;
  }
