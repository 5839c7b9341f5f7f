-- What opening a list of tokens answers, and what the source gives then.
use Rattle.std.specs.Prelude.{ℕ, List, Some, None, Ok, Err, Option, Result}
use Rattle.syntax.specs.declared.Token.{Token}
use Rattle.source.specs.Streams.{Stream}
use Rattle.streams.specs.Listed.{listed, first_out}
use Rattle.list.specs.declared.refusal.KindOutOfRange.{KindOutOfRange}

-- the number and the place of the refusal
abbrev pub number : KindOutOfRange → ℕ
number r = 12

abbrev pub place : KindOutOfRange → ℕ
place r = r.index

abbrev refused : Option ℕ → Result (Unit {0}) KindOutOfRange
refused None = Ok tt
refused (Some i) = Err (record { index = i })

abbrev kept : Option ℕ → Stream → Stream → Stream
kept None new old = new
kept (Some i) new old = old

-- refused at the first index with a kind out of range
abbrev pub open_answer : List Token → Result (Unit {0}) KindOutOfRange
open_answer ts = refused (first_out ts)

-- all of the tokens; a refusal leaves what there was
abbrev pub open_after : List Token → Stream → Stream
open_after ts old = kept (first_out ts) (listed ts) old
