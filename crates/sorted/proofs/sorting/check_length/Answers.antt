use Rattle.std.proofs.Common.{sym, refl, arith}
use Rattle.wellformed.proofs.Loops.{first_start, unless_fails, unless_passes, refuses_at, refuses_nothing}
use Rattle.wellformed.proofs.Firsts.{first_more}
use Rattle.sorted.proofs.sorting.check_length.Goals as goal

pub returns-then-length_fits : goal.returns-then-length_fits
returns-then-length_fits c =
    refuses_nothing _ 1 1 (first_more _ 0 (first_start _) (unless_passes _ (sym c.if-length_fits.ensures))) refl

pub returns-else-length_fits : goal.returns-else-length_fits
returns-else-length_fits c =
    refuses_at _ 1 0 _ (first_start _) (unless_fails _ (sym c.if-length_fits.ensures)) (omega arith)
