-- The records of a sheet as values, by their place, their key or their number.
use Rattle.std.specs.Prelude.{ℕ, cond, List, Some, None, Option, nat_lt}
use Rattle.records.specs.declared.Record.{Record}
use Rattle.layout.specs.declared.Letter.{Letter}
use Rattle.layout.specs.Choices.{mapped}
use Rattle.layout.specs.Records.{Sheet, count, record_at, code, key_of}
use Rattle.layout.specs.Meaning.{placed}
use Rattle.layout.specs.Search.{position, starts, index_of, by_number}

-- the record with these bytes
abbrev pub record_of : List ℕ → Record
record_of bs = record { bytes = bs }

-- the bytes of record i
abbrev pub taken : Sheet → ℕ → Record
taken sh i = record_of (record_at sh i)

-- record i, if there are so many
abbrev pub by_place : Sheet → ℕ → Option Record
by_place sh i = cond (nat_lt i (count sh)) (Some (taken sh i)) None

-- the record with a key
abbrev pub by_key : Sheet → Letter → ℕ → ℕ → ℕ → Option Record
by_key sh l a b c = mapped (taken sh) (placed sh l a b c)

-- the first record whose key is not below this one
abbrev pub from_key : Sheet → Letter → ℕ → ℕ → ℕ → Option Record
from_key sh l a b c = by_place sh (position sh (key_of (code l) a b c))

-- record n of a letter
abbrev pub by_count : Sheet → Letter → ℕ → Option Record
by_count sh l n = mapped (taken sh) (by_number (starts sh) (index_of l) n)
