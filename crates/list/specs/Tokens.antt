-- What a list source still has to give.
use Rattle.std.specs.Prelude.{◌≡◌, List, Ok, Err, Result}
use Rattle.syntax.specs.declared.Token.{Token}
use Rattle.syntax.specs.Grammar.{Kinded}
use Rattle.source.specs.Streams.{Stream}
use Rattle.streams.specs.Listed.{listed}
use Rattle.streams.proofs.Kinding.{listed_kinded}
use Rattle.list.specs.declared.ListSource.{ListSource}
use Rattle.list.specs.declared.refusal.KindOutOfRange.{KindOutOfRange}
use Rattle.list.specs.Opening.{open_answer}

abbrev pub stream : ListSource → Stream
stream s = listed s.tokens.now

-- every token that is still to come has a kind of a token
pub stream_kinded : (s : ListSource) → Kinded (stream s).tokens
stream_kinded s = listed_kinded s.tokens.now s.kinds

-- a source of all of the tokens, or what opening them is refused with
abbrev pub Opened : List Token → Result ListSource KindOutOfRange → Type 0
Opened ts (Ok s) = (open_answer ts ≡ Ok tt) × (stream s ≡ listed ts)
Opened ts (Err e) = open_answer ts ≡ Err e
