use Rattle.std.proofs.Common.{ap, ◌∙◌, arith}
use Rattle.layout.specs.declared.Letter.TheVariants.{P}
use Rattle.layout.specs.Choices.{mapped}
use Rattle.layout.specs.Records.{sheet}
use Rattle.wellformed.proofs.Formed.{formed_of}
use Rattle.wellformed.proofs.Numbered.{by_number_is, production_found}
use Rattle.sorted.specs.Found.{taken}
use Rattle.sheet.specs.Contents.{contents}
use Rattle.sheet.proofs.raw.RawSheet.production_record.Goals as goal

pub returns : goal.returns
returns c =
    let bs = contents c.args.self.now in
    let w = formed_of (sheet bs) c.args.self.now.opens in
    let found = by_number_is bs w P c.args.p (production_found bs w c.args.p (omega arith)) in
    c.numbered.ensures ∙ ap (mapped (taken (sheet bs))) found
