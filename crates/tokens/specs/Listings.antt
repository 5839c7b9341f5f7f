-- What the program lists: all tokens of a stream, and the fault that ends it, if one does.
use Rattle.std.specs.Prelude.{◌≡◌, ℕ, List, [], Some, None, Ok, Err, vec_items, Option, Result}
use Rattle.source.specs.declared.SourceFault.{SourceFault}
use Rattle.source.specs.Streams.{Ending, end, fault, Stream}
use Rattle.pile.specs.declared.Plan as given
use Rattle.pile.specs.Piles.{plan_stream, plan_answer}
use Rattle.tokens.specs.declared.listing.Listing.{Listing}
use Rattle.tokens.specs.declared.refusal.Refusal.{Refusal}
use Rattle.tokens.specs.declared.refusal.Refusal.TheVariants.{Plan, Memory}

abbrev pub fault_of : Ending → Option SourceFault
fault_of end = None
fault_of (fault f) = Some f

-- the listing of a stream
pub record Lists (s : Stream) (l : Listing) : Type 0 where
  pub tokens : vec_items l.tokens ≡ s.tokens
  pub fault : l.fault ≡ fault_of s.ending

-- a stream of which all was taken
abbrev pub emptied : Stream → Stream
emptied s = record { tokens = []; ending = s.ending }

-- the answer for a plan: what is refused of it, or the listing
abbrev pub Answers : given.Plan → Result Listing Refusal → Type 0
Answers p (Ok l) = (plan_answer p ≡ Ok tt) × Lists (plan_stream p) l
Answers p (Err (Plan e)) = plan_answer p ≡ Err e
Answers p (Err Memory) = Unit {0}
