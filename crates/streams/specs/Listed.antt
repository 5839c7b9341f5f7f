-- What a list of tokens means as a source, and where it has a kind that no token has.
use Rattle.std.specs.Prelude.{ℕ, Bool, ◌&&◌, not, List, position, Option, nat_le}
use Rattle.std.specs.List.{list_all}
use Rattle.syntax.specs.declared.Token.{Token}
use Rattle.source.specs.Streams.{end, Stream}

-- these tokens, and then END
abbrev pub listed : List Token → Stream
listed ts = record { tokens = ts; ending = end }

-- k is the kind of a token, 1 to 31
abbrev pub is_kind : ℕ → Bool
is_kind k = nat_le 1 k && nat_le k 31

-- every token has such a kind
abbrev pub all_fit : List Token → Bool
all_fit = list_all (λ t. is_kind t.kind)

-- the index of the first token with a kind out of range
abbrev pub first_out : List Token → Option ℕ
first_out = position (λ t. not (is_kind t.kind))
