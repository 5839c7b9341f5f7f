use Rattle.std.proofs.Common.{◌≡◌, ℕ, false, List, is_some, sym, subst}
use Rattle.layout.specs.Records.{sheet}
use Rattle.layout.specs.Checking.{verdict}
use Rattle.exactness.proofs.Practice.{practice_passes}
use Rattle.checker.proofs.checked.CheckedSheet.practice.Goals as goal

pub invariant_of-result : goal.invariant_of-result
invariant_of-result c =
    record { checked = subst (λ (bs : List ℕ). is_some (verdict (sheet bs)) ≡ false) (sym c.practice.ensures) practice_passes }
