use Rattle.std.proofs.Common.{arith}
use Rattle.layout.specs.Records.{sheet}
use Rattle.wellformed.proofs.Formed.{sorted_of, few_records}
use Rattle.sorted.proofs.ordered.Ordered.starts.Goals as goal

pub overflow_cast-result : goal.overflow_cast-result
overflow_cast-result c =
    let w = sorted_of (sheet c.args.self.bytes.now) c.args.self.sorted in
    omega (arith, few_records _ w, c.rows_of.ensures.count)
