use Rattle.std.proofs.Common.{◌≡◌, ◌∙◌, rules}
use Rattle.layout.specs.declared.Letter.TheVariants.{S}
use Rattle.layout.specs.Choices.{given}
use Rattle.layout.specs.Records.{byte}
use Rattle.layout.specs.Meaning.{placed}
use Rattle.sheet.specs.Contents.{sheet_in}
use Rattle.sheet.proofs.Parts.{past_length_is}
use Rattle.sheet.proofs.hints.RawSheetHinted.past_length.Goals as goal

pub returns : goal.returns
returns c =
    let sh = sheet_in c.args.self.now in
    let read : c.map_or.result ≡ given 0 (λ i. byte sh i 5) (placed sh S c.args.s 0 0) = search rules in
    read ∙ past_length_is sh (placed sh S c.args.s 0 0)
