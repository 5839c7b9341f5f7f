-- What a lexer that has looked ahead still has to give.
use Rattle.std.specs.Prelude.{◌≡◌, Bool, true, false, [], ◌∷◌}
use Rattle.syntax.specs.declared.Token.{Token}
use Rattle.syntax.specs.Grammar.{Kinded}
use Rattle.source.specs.Streams.{end, fault, Stream}
use Rattle.streams.specs.Listed.{is_kind}
use Rattle.streams.proofs.Kinding.{kind_from}
use Rattle.lexing.specs.Plans.{lexed_from}
use Rattle.lexing.proofs.Lexkinds.{lexed_kinded}
use Rattle.lexer.specs.declared.Lexer.{Lexer}
use Rattle.lexer.specs.declared.ahead.Ahead.{Ahead}
use Rattle.lexer.specs.declared.ahead.Ahead.TheVariants.{Unread, Seen, Ended, Stuck}

-- the item behind the position, as far as it is known, in front of what comes behind it; t is the remembered token
abbrev pub with_ahead : Ahead → Token → Stream → Stream
with_ahead Unread t s = s
with_ahead Seen t s = record { tokens = t ∷ s.tokens; ending = s.ending }
with_ahead Ended t s = record { tokens = []; ending = end }
with_ahead (Stuck f) t s = record { tokens = []; ending = fault f }

-- the item is not known yet
abbrev pub is_unread : Ahead → Bool
is_unread Unread = true
is_unread Seen = false
is_unread Ended = false
is_unread (Stuck f) = false

-- what the plan means from the position on
abbrev pub unread : Lexer → Stream
unread l = lexed_from l.at l.plan.now

-- what the lexer still has to give
abbrev pub stream : Lexer → Stream
stream l = with_ahead l.ahead l.token (unread l)

with_ahead_kinded :
    (a : Ahead) (t : Token) (s : Stream) → is_kind t.kind ≡ true → Kinded s.tokens
    → Kinded (with_ahead a t s).tokens
with_ahead_kinded Unread t s h rest = rest
with_ahead_kinded Seen t s h rest = (kind_from t.kind h, rest)
with_ahead_kinded Ended t s h rest = tt
with_ahead_kinded (Stuck f) t s h rest = tt

-- every token that is still to come has a kind of a token
pub stream_kinded : (l : Lexer) → Kinded (stream l).tokens
stream_kinded l =
    with_ahead_kinded l.ahead l.token (unread l) l.kind (lexed_kinded l.at l.plan.now)
