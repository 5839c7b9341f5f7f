use Rattle.std.proofs.Common.{◌≡◌, ◌∙◌, rules}
use Rattle.layout.specs.declared.Letter.TheVariants.{P}
use Rattle.layout.specs.Choices.{mapped}
use Rattle.layout.specs.Records.{byte}
use Rattle.layout.specs.Meaning.{placed}
use Rattle.sorted.specs.Contents.{sheet_in}
use Rattle.naming.proofs.Rows.{right_length_is}
use Rattle.naming.proofs.sense.length_of.Goals as goal

pub returns : goal.returns
returns c =
    let sh = sheet_in c.args.sorted.now in
    let read : c.map.result ≡ mapped (λ i. byte sh i 5) (placed sh P c.args.p 0 0) = search rules in
    read ∙ right_length_is sh c.args.p c.if-p-eq-ADDED.false
