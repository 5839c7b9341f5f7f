-- The records of a sheet: their letters, keys, fields and payloads.
use Rattle.std.specs.Prelude.{ℕ, zero, suc, ◌+◌, ◌-◌, ◌*◌, ◌/◌, ◌%◌, ◌^◌, Bool, cond, ◌&&◌, List, length, take, drop, Some, None, Option, ◌==◌, nat_lt, slice_index}
use Rattle.syntax.specs.declared.Symbol.{Symbol}
use Rattle.syntax.specs.declared.Symbol.TheVariants.{Terminal, Nonterminal}
use Rattle.syntax.specs.Grammar.{Rule}
use Rattle.table.specs.declared.Action.{Action}
use Rattle.table.specs.declared.Action.TheVariants.{Shift, Reduce, Accept}
use Rattle.table.specs.Lawful.{narrow}
use Rattle.layout.specs.declared.Letter.{Letter}
use Rattle.layout.specs.declared.Letter.TheVariants.{A, D, G, I, K, N, P, S}
use Rattle.layout.specs.Choices.{gather}

-- the length of a record, and the number of states that a sheet can have
pub record Format : Type 0 where
  pub width : ℕ
  pub states : ℕ

pub record Sheet : Type 0 where
  pub format : Format
  pub bytes : List ℕ

-- records of 16 bytes, 64 states
abbrev pub sixteen : Format
sixteen = record { width = 16; states = narrow }

abbrev pub sheet : List ℕ → Sheet
sheet bs = record { format = sixteen; bytes = bs }

unfoldable pub count : Sheet → ℕ
count sh = length sh.bytes / sh.format.width

-- the bytes of record i
unfoldable pub record_at : Sheet → ℕ → List ℕ
record_at sh i = take sh.format.width (drop (sh.format.width * i) sh.bytes)

-- byte k of a record
abbrev pub at : List ℕ → ℕ → ℕ
at r k = slice_index r k

-- byte k of record i
abbrev pub byte : Sheet → ℕ → ℕ → ℕ
byte sh i k = at (record_at sh i) k

abbrev pub code : Letter → ℕ
code A = 65
code D = 68
code G = 71
code I = 73
code K = 75
code N = 78
code P = 80
code S = 83

abbrev pub letter_of : ℕ → Option Letter
letter_of b =
    cond (b == 65) (Some A) (cond (b == 68) (Some D) (cond (b == 71) (Some G) (cond (b == 73) (Some I)
    (cond (b == 75) (Some K) (cond (b == 78) (Some N) (cond (b == 80) (Some P) (cond (b == 83) (Some S) None)))))))

abbrev pub letter : List ℕ → Option Letter
letter r = letter_of (at r 0)

-- four bytes as one number, highest first
abbrev pub key_of : ℕ → ℕ → ℕ → ℕ → ℕ
key_of l a b c = ((l * 256 + a) * 256 + b) * 256 + c

-- bytes 0 to 3: a letter and three numbers
unfoldable pub key : List ℕ → ℕ
key r = key_of (at r 0) (at r 1) (at r 2) (at r 3)

abbrev pub has_key : Letter → ℕ → ℕ → ℕ → List ℕ → Bool
has_key l a b c r = (at r 0 == code l && at r 1 == a) && (at r 2 == b && at r 3 == c)

-- the n bytes from k on as one number, highest first
abbrev pub number : List ℕ → ℕ → ℕ → ℕ
number r k zero = 0
number r k (suc n) = number r k n * 256 + at r (k + n)

-- the bytes from 8 on as a set
unfoldable pub payload : Format → List ℕ → ℕ
payload f r = number r 8 (f.width - 8)

-- x is in a set: its bit is 1
unfoldable pub member : Format → ℕ → ℕ → Bool
member f m x = nat_lt x f.states && (m / 2 ^ x) % 2 == 1

-- the set that a record holds
abbrev pub set_in : Format → List ℕ → ℕ → Bool
set_in f r = let m = payload f r in λ x. member f m x

-- the byte that stands for no symbol
abbrev pub no_symbol : ℕ
no_symbol = 255

-- a symbol byte: a terminal, or 64 and up for a nonterminal
abbrev pub symbol : ℕ → Symbol
symbol b = cond (nat_lt b 64) (Terminal b) (Nonterminal (b - 64))

abbrev pub maybe_symbol : ℕ → Option Symbol
maybe_symbol b = cond (b == no_symbol) None (Some (symbol b))

-- the first n symbols of the payload
abbrev pub symbols : List ℕ → ℕ → List Symbol
symbols r n = gather n (λ k. symbol (at r (8 + k)))

-- the production of a P record
abbrev pub rule_in : List ℕ → Rule
rule_in r = record { left = at r 4; right = symbols r (at r 5) }

-- the action of an A record
abbrev pub action_in : List ℕ → Action
action_in r = cond (at r 4 == 1) (Shift (at r 5)) (cond (at r 4 == 2) (Reduce (at r 5)) Accept)
