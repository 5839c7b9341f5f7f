-- Plans and what they give, worked out by the rules of the lexer and the limit.
use Rattle.std.specs.Prelude.{◌≡◌, ℕ, List, [], ◌∷◌, codes}
use Rattle.syntax.specs.declared.Token.{Token}
use Rattle.source.specs.Faults.{number, place, layer}
use Rattle.source.specs.Streams.{Ending, end, fault, Stream}
use Rattle.streams.specs.Limited.{limited}
use Rattle.lexing.specs.Plans.{token, lexed_from}

-- an ending: END, or a fault by its number, place and layer
pub data Told : Type 0 where
  at_end : Told
  with_fault : ℕ → ℕ → ℕ → Told

abbrev pub told : Ending → Told
told end = at_end
told (fault f) = with_fault (number f) (place f) (layer f)

-- a stream, its tokens and its ending
pub record Row : Type 0 where
  pub stream : Stream
  pub tokens : List Token
  pub ending : Told

abbrev pub row : Stream → List Token → Told → Row
row s ts e = record { stream = s; tokens = ts; ending = e }

-- a plan
abbrev pub plan : List ℕ → Stream
plan bs = lexed_from 0 bs

-- a plan under a limit of n, which is layer 1
abbrev pub at_most : ℕ → List ℕ → Stream
at_most n bs = limited 1 n (plan bs)

abbrev pub rows : List Row
rows =
    row (plan []) [] at_end
    ∷ row (plan (codes "on")) (token 1 0 2 28526 ∷ []) at_end
    ∷ row (plan (codes "on off")) (token 1 0 2 28526 ∷ token 1 3 3 7300710 ∷ []) at_end
    ∷ row (plan (codes "on5")) (token 1 0 2 28526 ∷ token 2 2 1 5 ∷ []) at_end
    ∷ row (plan (codes "abcdefgh")) (token 1 0 8 7017280452245743464 ∷ []) at_end
    ∷ row (plan (codes "abcdefghi")) [] (with_fault 10 0 0)
    ∷ row (plan (codes "4294967295")) (token 2 0 10 4294967295 ∷ []) at_end
    ∷ row (plan (codes "4294967296")) [] (with_fault 11 0 0)
    ∷ row (plan (codes "0000000000000000000000000000007")) (token 2 0 31 7 ∷ []) at_end
    ∷ row (plan (97 ∷ 9 ∷ [])) (token 1 0 1 97 ∷ []) (with_fault 9 1 0)
    ∷ row (plan (codes "aB")) (token 1 0 1 97 ∷ []) (with_fault 9 1 0)
    ∷ row (plan (codes "on !")) (token 1 0 2 28526 ∷ []) (with_fault 9 3 0)
    ∷ row (plan (10 ∷ 32 ∷ 43 ∷ 125 ∷ 10 ∷ [])) (token 3 2 1 0 ∷ token 16 3 1 0 ∷ []) at_end
    ∷ row (at_most 2 (codes "on off")) (token 1 0 2 28526 ∷ token 1 3 3 7300710 ∷ []) at_end
    ∷ row (at_most 2 (codes "on off !")) (token 1 0 2 28526 ∷ token 1 3 3 7300710 ∷ []) (with_fault 9 7 0)
    ∷ row (at_most 1 (codes "on off")) (token 1 0 2 28526 ∷ []) (with_fault 13 3 1)
    ∷ []

-- each row is what the definitions give
abbrev pub Hold : List Row → Type 0
Hold [] = Unit {0}
Hold (r ∷ rs) = (r.stream.tokens ≡ r.tokens) × (told r.stream.ending ≡ r.ending) × Hold rs

abbrev pub RowsHold : Type 0
RowsHold = Hold rows
