use Rattle.std.proofs.Common.{◌≡◌, None, ◌∙◌, rules}
use Rattle.records.specs.Parts.{symbol_in}
use Rattle.layout.specs.declared.Letter.TheVariants.{S}
use Rattle.layout.specs.Choices.{given}
use Rattle.layout.specs.Records.{sheet, record_at}
use Rattle.layout.specs.Meaning.{placed}
use Rattle.wellformed.proofs.Formed.{formed_of}
use Rattle.sheet.specs.Contents.{contents}
use Rattle.sheet.proofs.Parts.{past_symbol_is}
use Rattle.sheet.proofs.hints.RawSheetHinted.past_symbol.Goals as goal

pub returns : goal.returns
returns c =
    let bs = contents c.args.self.now in
    let w = formed_of (sheet bs) c.args.self.now.opens in
    let o = placed (sheet bs) S c.args.s 0 0 in
    let read : c.symbol.result ≡ given None (λ i. symbol_in (record_at (sheet bs) i) c.args.k) o = search rules in
    read ∙ past_symbol_is bs w c.args.s c.args.k
