use Rattle.std.proofs.Common.{◌≡◌, rules}
use Rattle.layout.specs.declared.Letter.TheVariants.{N}
use Rattle.layout.specs.Choices.{given}
use Rattle.layout.specs.Records.{sheet}
use Rattle.layout.specs.Meaning.{placed}
use Rattle.sheet.specs.Contents.{contents}
use Rattle.sheet.proofs.Sets.{payload_at, holds_found}
use Rattle.sheet.proofs.hints.RawSheetHinted.firsts.Goals as goal

pub returns : goal.returns
returns c =
    let bs = contents c.args.self.now in
    let o = placed (sheet bs) N c.args.n 0 0 in
    let read : c.map_or.result ≡ given 0 (payload_at bs) o = search rules in
    holds_found bs o c.map_or.result read
