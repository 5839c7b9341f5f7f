use Rattle.std.proofs.Common.{arith}
use Rattle.dense.proofs.rows.DenseTable.goto.Goals as goal

pub gotos-requires : goal.gotos-requires
gotos-requires g c = let w = g.met.R.DenseRows.widths in omega arith

pub cell_or-requires : goal.cell_or-requires
cell_or-requires g c = let w = g.met.R.DenseRows.widths in omega arith
