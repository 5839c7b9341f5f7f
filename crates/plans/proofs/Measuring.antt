-- A plan that was read into totals.
use Rattle.std.proofs.Common.{◌≡◌, ◌-◌, List, [], ◌∷◌, length, take, Ok, Err, Result, refl, ap, ◌∙◌, subst, arith}
use Rattle.table.specs.declared.Table as tables
use Rattle.sink.specs.declared.Sink as sinks
use Rattle.sink.specs.Stacks.{endless, limited}
use Rattle.measure.specs.declared.Measure as measures
use Rattle.measure.specs.Joins.{joining, over_leaves}
use Rattle.measure.proofs.Bracketing.{brackets}
use Rattle.totals.specs.declared.Totals.{Totals}
use Rattle.totals.specs.Meaning.{places, meaning, Begins, Kept, kept_none, kept_more}
use Rattle.outcome.specs.declared.Outcome.TheVariants.{Accepted}
use Rattle.outcome.specs.declared.Call.{Call}
use Rattle.machine.specs.Calls.{report as told}
use Rattle.machine.specs.Runs.{Run, after}
use Rattle.pile.specs.declared.PileRefusal.{PileRefusal}
use Rattle.pile.specs.declared.Plan.{Plan}
use Rattle.pile.specs.Piles.{plan_stream}
use Rattle.reading.specs.Promises.{Kept as Promise}
use Rattle.plans.specs.declared.PlanRead.{PlanRead}
use Rattle.plans.specs.Plans.{plan_run, ReadBy, comes_of}
use Rattle.plans.specs.Measured.{totals_run, measures_as}

module _ {T V : Type 0} (table : tables.Ghosts T) (m : measures.Ghosts V)
    (associative : (x y z : V) → m.join (m.join x y) z ≡ m.join x (m.join y z))
    (unit_left : (x : V) → m.join m.unit x ≡ x) (unit_right : (x : V) → m.join x m.unit ≡ x) where
  -- totals as a sink
  abbrev stacking : sinks.Ghosts (Totals V)
  stacking = record {
    Value = V;
    algebra = joining m;
    meaning = meaning;
    grows = Kept;
    still = kept_none;
    onward = kept_more;
  }

  module _ (t : T) (plan : Plan) (k : Totals V) (calls : List Call)
      (fresh : k.used ≡ 0) where
    abbrev run : Run V
    run = totals_run m (table.meaning t) plan (length (places k)) calls

    -- new totals have no list, and all places are free
    run_is : plan_run table stacking t plan k calls ≡ run
    run_is =
        let free : length (places k) - k.used ≡ length (places k) = omega arith in
        λ i. record {
          table = table.meaning t;
          stream = plan_stream plan;
          stack = record { list = take (fresh i) (places k); records = endless; cells = limited (free i) };
          calls = calls;
        }

    module _ (r : PlanRead (Totals V)) (new : List V) (begins : Begins new (meaning r.sink).list) where
      -- the list of the machine
      list_at_front : ReadBy table stacking t plan k calls r →
          Begins new (after (joining m) run).stack.list
      list_at_front read =
          subst (λ l. Begins new l)
          (ap (λ s. s.list) read.stack_is ∙ ap (λ x. (after (joining m) x).stack.list) run_is) begins

      -- accepted, it is the total of the one tree, whatever its bracketing
      total_at_front : ReadBy table stacking t plan k calls r → Promise (joining m) run →
          (after (joining m) run).outcome ≡ Accepted → Begins new (over_leaves m (plan_stream plan).tokens ∷ [])
      total_at_front read kept accepted =
          let whole = kept.promised.accepts_trees accepted in
          let total =
          brackets m associative unit_left unit_right whole.tree ∙ ap (over_leaves m) whole.of_text.1 in
          subst (λ l. Begins new l) (whole.list_is ∙ ap (λ v. v ∷ []) total) (list_at_front read)

      pub measured : (p : Result (Unit {0}) PileRefusal) → new ≡ places r.sink →
          comes_of table stacking t plan k calls p r →
          (p ≡ Ok tt → Promise (joining m) (plan_run table stacking t plan k calls)) →
          measures_as m (table.meaning t) plan p (places k) calls r.answer new
      measured (Ok u) same read promise = record {
        told_is = read.told_is ∙ ap (λ x. Ok (told (after (joining m) x))) run_is;
        list_is = list_at_front read;
        total_is = total_at_front read (subst (Promise (joining m)) run_is (promise refl));
      }
      measured (Err e) same refused promise = (refused.0, same ∙ ap places refused.1)
