use Rattle.std.proofs.Common.{arith}
use Rattle.dense.proofs.rows.DenseTable.action.Goals as goal

pub actions-requires : goal.actions-requires
actions-requires g c = let w = g.met.R.DenseRows.widths in omega arith

pub cell_or-requires : goal.cell_or-requires
cell_or-requires g c = let w = g.met.R.DenseRows.widths in omega arith
