-- What the tests of rows promise, as theorems about definitions alone.
use Rattle.std.specs.Prelude.{◌≡◌, true}
use Rattle.table.specs.Lawful.{narrow, Lawful}
use Rattle.table.specs.Validity.{Valid}
use Rattle.dense.specs.Rows.{Rows, automaton_of}
use Rattle.dense.specs.LawTests.{lawful_rows}
use Rattle.dense.specs.HintRows.{HintRows}
use Rattle.dense.specs.ValidityTests.{valid_rows}

-- rows that pass the test of their law hold a lawful table
abbrev pub TestedIsLawful : Type 0
TestedIsLawful = (R : Rows) → lawful_rows R ≡ true → Lawful narrow (automaton_of R)

-- rows that pass all tests together with hints hold a valid table
abbrev pub TestedIsValid : Type 0
TestedIsValid = (R : Rows) (H : HintRows) → valid_rows R H ≡ true → Valid narrow (automaton_of R)
