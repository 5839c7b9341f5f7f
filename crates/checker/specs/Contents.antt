-- What a checked sheet holds.
use Rattle.std.specs.Prelude.{ℕ, List}
use Rattle.layout.specs.Records.{Sheet, sheet}
use Rattle.sheet.specs.Contents.{contents as bytes_in}
use Rattle.checker.specs.declared.checked.CheckedSheet.{CheckedSheet}

-- its bytes
abbrev pub contents : CheckedSheet → List ℕ
contents s = bytes_in s.raw

abbrev pub sheet_in : CheckedSheet → Sheet
sheet_in s = sheet (contents s)
