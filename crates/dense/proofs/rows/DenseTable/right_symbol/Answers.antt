use Rattle.std.proofs.Common.{arith}
use Rattle.dense.proofs.rows.DenseTable.right_symbol.Goals as goal

pub right_symbols-requires : goal.right_symbols-requires
right_symbols-requires g c = let w = g.met.R.DenseRows.widths in omega arith

pub cell_or-requires : goal.cell_or-requires
cell_or-requires g c = let w = g.met.R.DenseRows.widths in omega arith
