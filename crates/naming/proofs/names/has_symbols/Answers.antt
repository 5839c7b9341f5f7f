use Rattle.std.proofs.Common.{◌≡◌, ℕ, true, false, sym, refl, ◌∙◌, tests, rules}
use Rattle.std.proofs.lemmas.Iterator.{cases_from_all, YieldsList-from_range}
use Rattle.layout.specs.Choices.{given, below}
use Rattle.layout.specs.Records.{at}
use Rattle.layout.specs.Opening.{has_symbol}
use Rattle.records.specs.Parts.{symbol_in}
use Rattle.sorted.specs.Contents.{sheet_in}
use Rattle.naming.proofs.Rows.{below_is, each_symbol}
use Rattle.naming.proofs.names.has_symbols.Goals as goal

pub returns : goal.returns
returns c =
    let known = has_symbol (sheet_in c.args.sorted.now) in
    let row = c.args.row.bytes in
    let f = λ (k : ℕ). given true known (symbol_in row k) in
    let all : c.all.result ≡ below (at row 5) f =
    below_is f (at row 5) c.all.result
    (cases_from_all c.all.new.self _ c.all.result (λ k. f k ≡ true) (λ k. f k ≡ false) c.all.ensures.ran
    (YieldsList-from_range 0 c.f2.result (at row 5) refl (search rules)) (λ x q k. search (rules, tests)) (λ x q k. search (rules, tests)))
    in
    all ∙ sym (each_symbol known row (search rules) refl)
