use Rattle.std.proofs.Common.{ap, ◌∙◌}
use Rattle.std.specs.Bool.{then_some}
use Rattle.layout.specs.Records.{sheet}
use Rattle.wellformed.proofs.Formed.{sorted_of}
use Rattle.sorted.proofs.Finds.{found_if, nothing_there}
use Rattle.sorted.proofs.held.SortedSheet.find.Goals as goal

pub returns-in_err-record : goal.returns-in_err-record
returns-in_err-record c =
    let w = sorted_of (sheet c.args.self.now.bytes.now) c.args.self.now.sorted in
    c.from_residual.ensures ∙ nothing_there _ w c.args.letter _ _ _ c.in_err-record.ensures

pub returns : goal.returns
returns c =
    let w = sorted_of (sheet c.args.self.now.bytes.now) c.args.self.now.sorted in
    let record_is = c.in_ok-record.ensures in
    c.then_some.ensures
    ∙ (ap (λ b. then_some b c.in_ok-record.record) c.has_key.ensures ∙ found_if _ w c.args.letter _ _ _ _ record_is)
