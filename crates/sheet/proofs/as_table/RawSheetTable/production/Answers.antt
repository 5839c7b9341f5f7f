use Rattle.std.proofs.Common.{◌≡◌, ◌∙◌, rules}
use Rattle.records.specs.Parts.{head_in}
use Rattle.layout.specs.declared.Letter.TheVariants.{P}
use Rattle.layout.specs.Choices.{mapped}
use Rattle.layout.specs.Records.{record_at}
use Rattle.layout.specs.Meaning.{placed}
use Rattle.sheet.specs.Contents.{sheet_in}
use Rattle.sheet.proofs.Parts.{head_is}
use Rattle.sheet.proofs.as_table.RawSheetTable.production.Goals as goal

pub returns : goal.returns
returns c =
    let sh = sheet_in c.args.self.now in
    let read : c.map.result ≡ mapped (λ i. head_in (record_at sh i)) (placed sh P c.args.p 0 0) = search rules in
    read ∙ head_is sh (placed sh P c.args.p 0 0)
