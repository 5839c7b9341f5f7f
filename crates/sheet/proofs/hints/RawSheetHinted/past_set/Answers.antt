use Rattle.std.proofs.Common.{◌≡◌, rules}
use Rattle.layout.specs.declared.Letter.TheVariants.{K}
use Rattle.layout.specs.Choices.{mapped}
use Rattle.layout.specs.Records.{sheet}
use Rattle.layout.specs.Meaning.{placed}
use Rattle.wellformed.proofs.Formed.{formed_of}
use Rattle.sheet.specs.Contents.{contents}
use Rattle.sheet.proofs.Sets.{payload_at, past_found}
use Rattle.sheet.proofs.hints.RawSheetHinted.past_set.Goals as goal

pub returns : goal.returns
returns c =
    let bs = contents c.args.self.now in
    let w = formed_of (sheet bs) c.args.self.now.opens in
    let read : c.map.result ≡ mapped (payload_at bs) (placed (sheet bs) K c.args.s c.args.depth 0) = search rules in
    past_found bs w c.args.s c.args.depth c.map.result read
