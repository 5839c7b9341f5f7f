use Rattle.exactness.proofs.Exact.{valid_of}
use Rattle.checker.specs.Contents.{contents}
use Rattle.checker.proofs.as_table.CheckedSheetCheckedTable.validity.Goals as goal

pub returns : goal.returns
returns c = valid_of (contents c.args.self.now) c.args.self.now.checked
