use Rattle.std.proofs.Common.{◌≡◌, true, false, ◌∙◌, tests, rules}
use Rattle.std.proofs.lemmas.Iterator.{IsFirst-from_position, YieldsList-from_slice}
use Rattle.sorted.specs.Contents.{rows_in}
use Rattle.naming.proofs.Rows.{first_failing}
use Rattle.sheet.specs.Contents.{sheet_in}
use Rattle.checker.proofs.Steps.{safe}
use Rattle.checker.proofs.conditions.first_unsafe.Goals as goal

pub returns : goal.returns
returns c =
    let sh = sheet_in c.args.raw.now in
    first_failing sh (safe sh) c.position.result
    (IsFirst-from_position c.position.new.self _ c.position.result
    (λ row. safe sh row ≡ false) (λ row. safe sh row ≡ true) c.position.ensures.ran
    (YieldsList-from_slice (rows_in sh) (c.iter.ensures.rest ∙ c.rows.ensures.rows))
    (λ x q k. search (rules, tests)) (λ x q k. search (rules, tests)))
