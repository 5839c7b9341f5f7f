-- What a source still has to give: tokens, and behind them an ending.
use Rattle.std.specs.Prelude.{ℕ, ◌+◌, min, List, [], ◌∷◌, Some, None, Ok, Err, Option, Result}
use Rattle.syntax.specs.declared.Token.{Token}
use Rattle.source.specs.declared.SourceFault.{SourceFault}

-- the end of the text, END, or a fault
pub data Ending : Type 0 where
  end : Ending
  fault : SourceFault → Ending

pub record Stream : Type 0 where
  pub tokens : List Token
  pub ending : Ending

abbrev ending_answer : Ending → Result (Option Token) SourceFault
ending_answer end = Ok None
ending_answer (fault f) = Err f

-- the next of these tokens, or the ending
abbrev pub next : List Token → Ending → Result (Option Token) SourceFault
next [] e = ending_answer e
next (t ∷ ts) e = Ok (Some t)

abbrev pub rest : List Token → List Token
rest [] = []
rest (t ∷ ts) = ts

-- what peek and take answer
abbrev pub answer : Stream → Result (Option Token) SourceFault
answer s = next s.tokens s.ending

-- what is left after take
abbrev pub dropped : Stream → Stream
dropped s = record { tokens = rest s.tokens; ending = s.ending }

-- the number of a layer over one of number n
abbrev pub above : ℕ → ℕ
above n = min (n + 1) 255
