use Rattle.std.proofs.Common.{◌≡◌, true, false, ◌∙◌, tests, rules}
use Rattle.std.proofs.lemmas.Iterator.{IsFirst-from_position, YieldsList-from_slice}
use Rattle.sorted.specs.Contents.{rows_in}
use Rattle.naming.proofs.Rows.{first_failing}
use Rattle.sheet.specs.Contents.{sheet_in}
use Rattle.checker.proofs.Steps.{complete}
use Rattle.checker.proofs.conditions.first_incomplete.Goals as goal

pub returns : goal.returns
returns c =
    let sh = sheet_in c.args.raw.now in
    first_failing sh (complete sh) c.position.result
    (IsFirst-from_position c.position.new.self _ c.position.result
    (λ row. complete sh row ≡ false) (λ row. complete sh row ≡ true) c.position.ensures.ran
    (YieldsList-from_slice (rows_in sh) (c.iter.ensures.rest ∙ c.rows.ensures.rows))
    (λ x q k. search (rules, tests)) (λ x q k. search (rules, tests)))
