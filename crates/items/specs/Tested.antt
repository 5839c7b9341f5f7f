-- The items table passes the tests of its rows, by computation.
use Rattle.std.specs.Prelude.{◌≡◌, true, refl}
use Rattle.layout.specs.Choices.{every}
use Rattle.dense.specs.LawTests.{each_at, lawful_rows}
use Rattle.items.specs.Rows.{items_rows}

pub items_lawful : lawful_rows items_rows ≡ true
unfolding every each_at
items_lawful = refl
