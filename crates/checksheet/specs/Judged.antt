-- What the program tells of a file's bytes.
use Rattle.std.specs.Prelude.{ℕ, List, Some, None, Ok, Err, Option, Result, codes}
use Rattle.layout.specs.declared.Refusal.{Refusal}
use Rattle.layout.specs.declared.Refusal.TheVariants.{Length, Order, Range, Absent, Contradiction, Unsafe, Incomplete}
use Rattle.layout.specs.Records.{sheet, count}
use Rattle.layout.specs.Opening.{opening}

abbrev counted : Option Refusal → ℕ → Result ℕ Refusal
counted None n = Ok n
counted (Some x) n = Err x

-- the number of records, unless opening refuses
abbrev pub judged : List ℕ → Result ℕ Refusal
judged bs = counted (opening (sheet bs)) (count (sheet bs))

-- what is wrong with a sheet that is refused, for a reader of the line
abbrev pub why : Refusal → List ℕ
why Length = codes "no bytes, above 65,520, or no whole number of records"
why (Order i) = codes "the key of this record is not above the one before"
why (Range i) = codes "a byte of this record is out of range, or its set is empty"
why (Absent i) = codes "this record names what is absent or leaves a gap, or a kind of record is missing"
why (Contradiction i) = codes "this record contradicts another"
why (Unsafe i) = codes "a reading could slip on this record"
why (Incomplete i) = codes "a reading could refuse a good plan by this record"
