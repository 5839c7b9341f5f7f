-- The items table passes the tests of its validity under its hints, by computation.
use Rattle.std.proofs.Common.{◌≡◌, true, refl}
use Rattle.layout.specs.Choices.{below, some_below, every, run}
use Rattle.layout.specs.Checking.{same_symbols, covers}
use Rattle.layout.specs.CompletenessTests.{rule_count}
use Rattle.dense.specs.LawTests.{each_at}
use Rattle.dense.specs.HintRows.{listed, looks_of}
use Rattle.dense.specs.ValidityTests.{valid_rows}
use Rattle.items.specs.Rows.{items_rows}
use Rattle.items.specs.Hints.{items_hints}

pub items_pass : valid_rows items_rows items_hints ≡ true
unfolding below some_below every run same_symbols covers rule_count each_at listed looks_of
items_pass = refl
