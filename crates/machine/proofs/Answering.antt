-- What calls answer is true, and a run goes on call by call.
use Rattle.std.proofs.Common.{◌≡◌, List, [], ◌∷◌, ◌++◌, Some, None, Ok, Err, Option, refl}
use Rattle.syntax.specs.Values.{Algebra}
use Rattle.theory.proofs.Clash.{clash}
use Rattle.outcome.specs.declared.Declined.{Declined}
use Rattle.outcome.specs.declared.Call.{Call}
use Rattle.outcome.specs.declared.Report.{Report}
use Rattle.machine.specs.Reading.{State}
use Rattle.machine.specs.Calls.{declined, unless, or_declined, done, called, after_calls, report}
use Rattle.machine.specs.Runs.{new}
use Rattle.machine.specs.Promise.{AnswersTruly, OneCallMore}

module _ {V : Type 0} (R : Algebra V) (c : Call) (r : State V) where
  unmoved : (d : Declined) (o : Option Declined) → or_declined o (report (unless o (λ s. done R c s) r)) ≡ Err d →
      unless o (λ s. done R c s) r ≡ r
  unmoved d None e = absurd (clash (cc))
  unmoved d (Some x) e = refl

  told : (x : Report) (o : Option Declined) → or_declined o (report (unless o (λ s. done R c s) r)) ≡ Ok x →
      x ≡ report (unless o (λ s. done R c s) r)
  told x None e = cc
  told x (Some d) e = absurd (clash (cc))

pub answers_truly : (V : Type 0) → AnswersTruly V
answers_truly V R c r = record {
  declined_unmoved = λ d e. unmoved R c r d (declined c r) e;
  told_truly = λ x e. told R c r x (declined c r) e;
}

calls_more : {V : Type 0} (R : Algebra V) (cs : List Call) (c : Call) (r : State V) →
    after_calls R (cs ++ (c ∷ [])) r ≡ called R c (after_calls R cs r)
calls_more R [] c r = refl
calls_more R (d ∷ cs) c r = calls_more R cs c (called R d r)

pub one_call_more : (V : Type 0) → OneCallMore V
one_call_more V R run c = calls_more R run.calls c (new run.table run.stream run.stack)
