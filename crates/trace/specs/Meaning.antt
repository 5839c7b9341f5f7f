-- What a trace means.
use Prim.Native.Nat.{zero-le}
use Rattle.std.specs.Prelude.{ℕ, ◌-◌, List, ◌++◌}
use Rattle.std.specs.Borrow.{MutBor}
use Rattle.sink.specs.Stacks.{Stack, endless, limited, back, sent}
use Rattle.trace.specs.declared.Trace.{Trace}
use Rattle.trace.specs.Records.{joined, places}
use Rattle.trace.specs.Piles.{top, pile}

abbrev pub bytes : Trace → List ℕ
bytes t = t.bytes.now

-- no record, and all places are free
abbrev pub fresh : MutBor (List ℕ) → Trace
fresh lent = record { bytes = lent; records = 0; trees = 0; fits = zero-le; rooted = zero-le }

-- the t trees that n records leave in some bytes, and the places that are left
abbrev pub stack : List ℕ → ℕ → ℕ → Stack (List ℕ)
stack bs n t = record { list = top t (pile n bs); records = limited (places bs - n); cells = endless }

abbrev pub meaning : Trace → Stack (List ℕ)
meaning t = stack (bytes t) t.records t.trees

-- a record r makes one tree of the last k, with itself behind them
abbrev pub appended : ℕ → List ℕ → Stack (List ℕ) → Stack (List ℕ)
appended k r s = sent k (joined (back k s.list) ++ r) s
