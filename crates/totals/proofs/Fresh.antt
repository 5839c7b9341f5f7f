-- Totals without a value, whatever shows that they fit.
use Rattle.std.proofs.Common.{◌≡◌, ◌≤◌, List, length}
use Rattle.std.proofs.Math.Bridge.{le_prop}
use Rattle.std.specs.Borrow.{MutBor}
use Rattle.totals.specs.declared.Totals.{Totals}
use Rattle.totals.specs.Meaning.{fresh}

pub fresh_is : {M : Type 0} (lent : MutBor (List M)) (fits : 0 ≤ length lent.now) →
    ◌≡◌ {A = Totals M} (record { places = lent; used = 0; fits = fits }) (fresh lent)
fresh_is lent fits = λ i. record { places = lent; used = 0; fits = le_prop fits (fresh lent).fits i }
