-- What a raw sheet holds.
use Rattle.std.specs.Prelude.{ℕ, List}
use Rattle.layout.specs.Records.{Sheet, sheet}
use Rattle.sorted.specs.Contents.{contents as bytes_in}
use Rattle.sheet.specs.declared.raw.RawSheet.{RawSheet}

-- its bytes
abbrev pub contents : RawSheet → List ℕ
contents s = bytes_in s.sorted

abbrev pub sheet_in : RawSheet → Sheet
sheet_in s = sheet (contents s)
