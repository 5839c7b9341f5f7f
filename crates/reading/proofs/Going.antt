-- What one step is of a turn.
use Rattle.std.proofs.Common.{◌≡◌, ℕ, suc, ◌-◌, ◌<◌, Result, ap, ◌∙◌, arith}
use Rattle.syntax.specs.Values.{Algebra}
use Rattle.table.specs.declared.Action.{Action}
use Rattle.source.specs.declared.SourceFault.{SourceFault}
use Rattle.outcome.specs.declared.Outcome.TheVariants.{More}
use Rattle.outcome.specs.Numbers.{ended}
use Rattle.machine.specs.Reading.{State, found_in, step_by, step, go_on, spend}
use Rattle.reading.specs.Steps.{going}

module _ {V : Type 0} (R : Algebra V) where
  module _ (r : State V) (more : r.outcome ≡ More) where
    begins : (n : ℕ) → going R n r ≡ spend R n r
    begins n = ap (λ o. go_on R (ended o) (λ s. spend R n s) r) more

    -- a step, and then the others
    pub one_more : (n : ℕ) → 0 < n → going R n r ≡ going R (n - 1) (step R r)
    one_more n some = let e : n ≡ suc (n - 1) = omega arith in begins n ∙ ap (λ m. spend R m r) e

    module _ (x : Result Action SourceFault) (found : found_in r ≡ x) where
      -- what is found makes a step
      pub steps_on : (n : ℕ) → 0 < n → going R n r ≡ going R (n - 1) (step_by R r x)
      steps_on n some = one_more n some ∙ ap (λ y. going R (n - 1) (step_by R r y)) found
