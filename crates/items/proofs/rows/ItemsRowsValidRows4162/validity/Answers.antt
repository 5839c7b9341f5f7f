use Rattle.items.proofs.rows.ItemsRowsValidRows4162.validity.Goals as goal
use Rattle.dense.proofs.Valid.{tested_is_valid}
use Rattle.items.specs.Rows.{items_rows}
use Rattle.items.specs.Hints.{items_hints}
use Rattle.items.proofs.Tested.{items_pass}

pub returns : goal.returns
returns c = tested_is_valid items_rows items_hints items_pass
