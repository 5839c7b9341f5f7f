use Rattle.std.proofs.Common.{◌≡◌, ℕ, false, List, is_some, sym, refl, subst}
use Rattle.layout.specs.Choices.{first, below, some_below, every, gather}
use Rattle.layout.specs.Records.{sheet, count, record_at, key, payload, member}
use Rattle.layout.specs.Meaning.{placed}
use Rattle.layout.specs.Practice.{practice_bytes}
use Rattle.layout.specs.Opening.{opening}
use Rattle.sheet.proofs.raw.RawSheet.practice.Goals as goal

opens : is_some (opening (sheet practice_bytes)) ≡ false
unfolding opening first below some_below every gather count record_at key payload member placed
opens = refl

pub invariant_of-result : goal.invariant_of-result
invariant_of-result c =
    record { opens = subst (λ (bs : List ℕ). is_some (opening (sheet bs)) ≡ false) (sym c.practice.ensures) opens }
