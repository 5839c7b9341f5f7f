-- The practice sheet and its neighbours, by computation.
use Rattle.std.proofs.Common.{◌≡◌, false, drop, is_some, refl, ap}
use Rattle.layout.specs.Choices.{first, below, some_below, every, gather, run}
use Rattle.layout.specs.Records.{sheet, count, record_at, key, payload, member}
use Rattle.layout.specs.Meaning.{placed}
use Rattle.layout.specs.Checking.{same_symbols, covers}
use Rattle.layout.specs.Checking.{verdict}
use Rattle.layout.specs.Practice.{practice_bytes}
use Rattle.exactness.specs.Cases.{cases, AllHold, CasesHold}

pub cases_hold : CasesHold
unfolding verdict first below some_below every gather run count record_at key payload member placed same_symbols covers
cases_hold =
    let last : AllHold (drop 7 cases) = (refl, (refl, (refl, (refl, (refl, (refl, (refl, tt))))))) in
    (refl, (refl, (refl, (refl, (refl, (refl, (refl, last)))))))

pub practice_passes : is_some (verdict (sheet practice_bytes)) ≡ false
practice_passes = ap is_some cases_hold.0
