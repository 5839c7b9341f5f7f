use Rattle.std.proofs.Common.{refl, arith}
use Rattle.layout.specs.Records.{sixteen, member}
use Rattle.completeness.proofs.Bits.{subset_is}
use Rattle.completeness.proofs.closure.first_item_has.Goals as goal

pub returns : goal.returns
returns g c =
    let w = c.args.wanted in
    subset_is w (member sixteen w) (omega arith) c.requires (λ a. refl) c.look_aheads.result _
    c.look_aheads.ensures
