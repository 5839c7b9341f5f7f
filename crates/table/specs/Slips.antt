-- The number of each slip.
use Rattle.std.specs.Prelude.{ℕ}
use Rattle.table.specs.declared.Slip.{Slip}
use Rattle.table.specs.declared.Slip.TheVariants.{FewCells, WrongSymbol, NoGoto, AtEnd}

abbrev pub number : Slip → ℕ
number FewCells = 1
number WrongSymbol = 2
number NoGoto = 3
number AtEnd = 4
