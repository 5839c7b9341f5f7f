-- The practice sheet and its neighbours, by computation.
use Rattle.std.proofs.Common.{◌≡◌, false, is_some, refl, ap}
use Rattle.layout.specs.Choices.{first, below, some_below, every, gather}
use Rattle.layout.specs.Records.{sheet, count, record_at, key, payload, member}
use Rattle.layout.specs.Meaning.{placed}
use Rattle.layout.specs.Opening.{opening}
use Rattle.layout.specs.Practice.{practice_bytes, CasesHold}
use Rattle.wellformed.specs.Formed.{Sorted}
use Rattle.wellformed.proofs.Formed.{opens_exactly_formed}

pub cases_hold : CasesHold
unfolding opening first below some_below every gather count record_at key payload member placed
cases_hold = (refl, (refl, (refl, (refl, (refl, (refl, (refl, (refl, tt))))))))

pub practice_opens : is_some (opening (sheet practice_bytes)) ≡ false
practice_opens = ap is_some cases_hold.0

pub practice_sorted : Sorted (sheet practice_bytes)
practice_sorted = ((opens_exactly_formed (sheet practice_bytes)).0 cases_hold.0).sorted
