-- The marked readings hold by computation.
use Rattle.std.proofs.Common.{refl}
use Rattle.machine.specs.Marked.{Marked}

pub marked : Marked
marked = record {
  rows_hold = refl;
  spots_hold = refl;
  tree_text = refl;
  tree_size = refl;
  tree_reach = refl;
  tree_events = refl;
}
