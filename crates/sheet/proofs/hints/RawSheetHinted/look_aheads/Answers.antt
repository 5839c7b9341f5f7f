use Rattle.std.proofs.Common.{◌≡◌, rules}
use Rattle.layout.specs.declared.Letter.TheVariants.{I}
use Rattle.layout.specs.Choices.{given}
use Rattle.layout.specs.Records.{sheet}
use Rattle.layout.specs.Meaning.{placed}
use Rattle.sheet.specs.Contents.{contents}
use Rattle.sheet.proofs.Sets.{payload_at, holds_found}
use Rattle.sheet.proofs.hints.RawSheetHinted.look_aheads.Goals as goal

pub returns : goal.returns
returns c =
    let bs = contents c.args.self.now in
    let o = placed (sheet bs) I c.args.s c.args.p c.args.dot in
    let read : c.map_or.result ≡ given 0 (payload_at bs) o = search rules in
    holds_found bs o c.map_or.result read
