use Rattle.std.proofs.Common.{ap, ◌∙◌, arith}
use Rattle.layout.specs.declared.Letter.TheVariants.{N}
use Rattle.layout.specs.Choices.{mapped}
use Rattle.layout.specs.Records.{sheet}
use Rattle.wellformed.proofs.Formed.{formed_of}
use Rattle.wellformed.proofs.Numbered.{by_number_is, nonterminal_found}
use Rattle.sorted.specs.Found.{taken}
use Rattle.sheet.specs.Contents.{contents}
use Rattle.sheet.proofs.raw.RawSheet.nonterminal_record.Goals as goal

pub returns : goal.returns
returns c =
    let bs = contents c.args.self.now in
    let w = formed_of (sheet bs) c.args.self.now.opens in
    let found = by_number_is bs w N c.args.n (nonterminal_found bs w c.args.n (omega arith)) in
    c.numbered.ensures ∙ ap (mapped (taken (sheet bs))) found
