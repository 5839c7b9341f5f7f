use Rattle.std.proofs.Common.{◌≡◌, ℕ, true, false, refl, tests, rules}
use Rattle.std.proofs.lemmas.Iterator.{cases_from_all, YieldsList-from_range}
use Rattle.layout.specs.Choices.{implies}
use Rattle.layout.specs.Records.{sixteen, member}
use Rattle.layout.specs.Opening.{has_state}
use Rattle.sorted.specs.Contents.{sheet_in}
use Rattle.naming.proofs.Rows.{below_is}
use Rattle.naming.proofs.names.has_states.Goals as goal

pub returns : goal.returns
returns c =
    let f = λ (s : ℕ). implies (member sixteen c.args.set s) (has_state (sheet_in c.args.sorted.now) s) in
    below_is f 64 c.all.result
    (cases_from_all c.all.new.self _ c.all.result (λ s. f s ≡ true) (λ s. f s ≡ false) c.all.ensures.ran
    (YieldsList-from_range 0 64 64 refl refl) (λ x q k. search (rules, tests)) (λ x q k. search (rules, tests)))
