use Rattle.std.proofs.Common.{◌≡◌, length, rules}
use Rattle.trace.proofs.Appended.{one_tree, grown}
use Rattle.trace.proofs.Trace.append.Goals as goal

pub returns : goal.returns
returns c =
    let a = c.args.self.now in
    let k = c.args.children in
    let r = c.args.event in
    let new = c.write_record.new.bytes in
    let sixteen : length r ≡ 16 = search rules in
    let here = c.requires in
    let written = c.write_record.ensures in
    record {
      after = one_tree a k r new here.room here.trees sixteen here.children written;
      memory = grown a k r new here.room here.trees sixteen here.children written _ _;
    }
