-- The records of a trace: 16 bytes for each event.
use Rattle.std.specs.Prelude.{ℕ, zero, suc, ◌*◌, ◌/◌, ◌%◌, ◌^◌, List, [], ◌∷◌, ◌++◌, length, take, drop, replicate}
use Rattle.syntax.specs.declared.Token.{Token}
use Rattle.syntax.specs.Values.{Algebra}

-- the lowest n bytes of x, the highest of them first
abbrev pub big_endian : ℕ → ℕ → List ℕ
big_endian zero x = []
big_endian (suc n) x = (x / 256 ^ n % 256) ∷ big_endian n x

-- the letters of the two kinds of record, L and N
abbrev pub letter_L : ℕ
letter_L = 76

abbrev pub letter_N : ℕ
letter_N = 78

-- a leaf: the letter, the kind, two zeros, the place and the value
abbrev pub leaf_record : Token → List ℕ
leaf_record t = letter_L ∷ t.kind ∷ 0 ∷ 0 ∷ (big_endian 4 t.place ++ big_endian 8 t.value)

-- a node: the letter, the production, how many children, and zeros
abbrev pub node_record : ℕ → ℕ → List ℕ
node_record p k = letter_N ∷ p ∷ k ∷ replicate 13 0

-- the pieces one behind the other
abbrev pub joined : List (List ℕ) → List ℕ
joined [] = []
joined (x ∷ xs) = x ++ joined xs

-- how a trace reads a tree: the records of its leaves and nodes in postfix, each node behind its children
abbrev pub postfix : Algebra (List ℕ)
postfix = record { leaf_rule = leaf_record; node_rule = λ p ts. joined ts ++ node_record p (length ts) }

-- how many places for records some bytes have: only whole ones count
abbrev pub places : List ℕ → ℕ
places bytes = length bytes / 16

-- record i of some bytes
abbrev pub record_at : List ℕ → ℕ → List ℕ
record_at bytes i = take 16 (drop (16 * i) bytes)
