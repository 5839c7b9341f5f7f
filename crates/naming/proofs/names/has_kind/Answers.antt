use Rattle.std.proofs.Common.{◌≡◌, ℕ, true, false, List, ◌==◌, tests, rules, ◌∙◌}
use Rattle.std.proofs.lemmas.Iterator.{cases_from_any, YieldsList-from_slice}
use Rattle.layout.specs.Records.{at, code}
use Rattle.sorted.specs.Contents.{sheet_in, rows_in}
use Rattle.naming.proofs.Rows.{some_row}
use Rattle.naming.proofs.names.has_kind.Goals as goal

pub returns : goal.returns
returns c =
    let sh = sheet_in c.args.sorted.now in
    let begins = λ (row : List ℕ). at row 0 == code c.args.letter in
    some_row sh begins c.any.result
    (cases_from_any c.any.new.self _ c.any.result (λ row. begins row ≡ true) (λ row. begins row ≡ false) c.any.ensures.ran
    (YieldsList-from_slice (rows_in sh) (c.iter.ensures.rest ∙ c.rows.ensures.rows))
    (λ x q k. search (rules, tests)) (λ x q k. search (rules, tests)))
