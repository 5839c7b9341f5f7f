-- Where a record with a given key stands, or would stand, among records in key order.
use Rattle.std.specs.Prelude.{ℕ, ◌+◌, cond, List, [], ◌∷◌, Some, None, Option, nat_le, nat_lt, slice_index}
use Rattle.layout.specs.declared.Letter.{Letter}
use Rattle.layout.specs.declared.Letter.TheVariants.{A, D, G, I, K, N, P, S}
use Rattle.layout.specs.Choices.{least}
use Rattle.layout.specs.Records.{Sheet, count, record_at, code, key_of, key}

-- the first record whose key is not below k, else the number of records
unfoldable pub position : Sheet → ℕ → ℕ
position sh k = least (λ i. nat_le k (key (record_at sh i))) (count sh)

-- where the records of a letter begin
abbrev pub start : Sheet → Letter → ℕ
start sh l = position sh (key_of (code l) 0 0 0)

-- where the records of each letter begin, and where the last ones end
abbrev pub starts : Sheet → List ℕ
starts sh =
    start sh A ∷ start sh D ∷ start sh G ∷ start sh I ∷ start sh K ∷ start sh N ∷ start sh P ∷ start sh S
    ∷ count sh ∷ []

-- the place of a letter in this list
abbrev pub index_of : Letter → ℕ
index_of A = 0
index_of D = 1
index_of G = 2
index_of I = 3
index_of K = 4
index_of N = 5
index_of P = 6
index_of S = 7

-- the record n behind the begin of a letter, if it comes before the end; at is the letter's place in the list
abbrev pub by_number : List ℕ → ℕ → ℕ → Option ℕ
by_number table at n = cond (nat_lt (slice_index table at + n) (slice_index table (at + 1))) (Some (slice_index table at + n)) None
