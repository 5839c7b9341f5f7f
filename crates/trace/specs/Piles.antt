-- The trees that records stand for, piled up in the order of the records.
use Rattle.std.specs.Prelude.{ℕ, zero, suc, cond, List, [], ◌∷◌, ◌++◌, ◌==◌, slice_index}
use Rattle.trace.specs.Records.{letter_N, joined, record_at}

-- trees by depth, the topmost at 0. A pile has no end: below what was put on it lie empty pieces, which a record
-- finds that asks for more trees than there are
abbrev pub Pile : Type 0
Pile = ℕ → List ℕ

abbrev pub bare : Pile
bare n = []

abbrev pub put : List ℕ → Pile → Pile
put x s zero = x
put x s (suc n) = s n

-- what lies below the top k
abbrev pub below : ℕ → Pile → Pile
below zero s = s
below (suc k) s = below k (λ n. s (suc n))

-- the top k, the topmost last
abbrev pub top : ℕ → Pile → List (List ℕ)
top zero s = []
top (suc k) s = top k (λ n. s (suc n)) ++ (s 0 ∷ [])

-- how many children a record has
abbrev pub children : List ℕ → ℕ
children r = cond (slice_index r 0 == letter_N) (slice_index r 2) 0

-- a record takes its children off the pile, and puts them back as one tree with itself behind them
abbrev pub played : List ℕ → Pile → Pile
played r s = put (joined (top (children r) s) ++ r) (below (children r) s)

-- what the first n records of some bytes leave
abbrev pub pile : ℕ → List ℕ → Pile
pile zero bytes = bare
pile (suc n) bytes = played (record_at bytes n) (pile n bytes)
