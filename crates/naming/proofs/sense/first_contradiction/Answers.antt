use Rattle.std.proofs.Common.{◌≡◌, true, false, ◌∙◌, tests, rules}
use Rattle.std.proofs.lemmas.Iterator.{IsFirst-from_position, YieldsList-from_slice}
use Rattle.layout.specs.Opening.{makes_sense}
use Rattle.sorted.specs.Contents.{sheet_in, rows_in}
use Rattle.naming.proofs.Rows.{first_failing}
use Rattle.naming.proofs.sense.first_contradiction.Goals as goal

pub returns : goal.returns
returns c =
    let sh = sheet_in c.args.sorted.now in
    first_failing sh (makes_sense sh) c.position.result
    (IsFirst-from_position c.position.new.self _ c.position.result
    (λ row. makes_sense sh row ≡ false) (λ row. makes_sense sh row ≡ true) c.position.ensures.ran
    (YieldsList-from_slice (rows_in sh) (c.iter.ensures.rest ∙ c.rows.ensures.rows))
    (λ x q k. search (rules, tests)) (λ x q k. search (rules, tests)))
