-- A trace without a record, whatever shows that it fits.
use Rattle.std.proofs.Common.{◌≡◌, ℕ, ◌≤◌, List}
use Rattle.std.proofs.Math.Bridge.{le_prop}
use Rattle.std.specs.Borrow.{MutBor}
use Rattle.trace.specs.declared.Trace.{Trace}
use Rattle.trace.specs.Records.{places}
use Rattle.trace.specs.Meaning.{fresh}

pub fresh_is : (lent : MutBor (List ℕ)) (fits : 0 ≤ places lent.now) (rooted : 0 ≤ 0) →
    ◌≡◌ {A = Trace} (record { bytes = lent; records = 0; trees = 0; fits = fits; rooted = rooted }) (fresh lent)
fresh_is lent fits rooted = λ i. record {
  bytes = lent;
  records = 0;
  trees = 0;
  fits = le_prop fits (fresh lent).fits i;
  rooted = le_prop rooted (fresh lent).rooted i;
}
