-- What a sorted sheet holds.
use Rattle.std.specs.Prelude.{ℕ, List}
use Rattle.layout.specs.Choices.{gather}
use Rattle.layout.specs.Records.{Sheet, sheet, count, record_at}
use Rattle.sorted.specs.declared.held.SortedSheet.{SortedSheet}

-- its bytes
abbrev pub contents : SortedSheet → List ℕ
contents s = s.bytes.now

abbrev pub sheet_in : SortedSheet → Sheet
sheet_in s = sheet (contents s)

-- the bytes of each record
abbrev pub rows_in : Sheet → List (List ℕ)
rows_in sh = gather (count sh) (record_at sh)
