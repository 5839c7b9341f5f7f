-- What a quota makes of the sink below it.
use Rattle.std.specs.Prelude.{ℕ, min}
use Rattle.sink.specs.Stacks.{Count, endless, limited, Stack}

-- no more than n
abbrev pub at_most : ℕ → Count → Count
at_most n endless = limited n
at_most n (limited m) = limited (min n m)

-- the same list and cells, and n records at most
abbrev pub capped : {V : Type 0} → ℕ → Stack V → Stack V
capped n s = record { list = s.list; records = at_most n s.records; cells = s.cells }
