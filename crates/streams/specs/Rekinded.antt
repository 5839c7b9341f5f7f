-- What a stream means once its listed words have their listed kinds.
use Rattle.std.specs.Prelude.{ℕ, Bool, cond, List, map, find, option_map, unwrap_or, ◌==◌}
use Rattle.std.specs.List.{list_any, list_all}
use Rattle.syntax.specs.declared.Token.{Token}
use Rattle.source.specs.Streams.{Stream}
use Rattle.streams.specs.declared.Keyword.{Keyword}
use Rattle.streams.specs.Listed.{is_kind}

-- the kind of a word, before any keyword
abbrev pub word : ℕ
word = 1

-- the kind that words of value v have
abbrev pub kind_of : List Keyword → ℕ → ℕ
kind_of ws v = unwrap_or (option_map (λ w. w.kind) (find (λ w. w.spelling == v) ws)) word

-- a token with the kind that it has among these keywords
abbrev pub rekind : List Keyword → Token → Token
rekind ws t = record {
  kind = cond (t.kind == word) (kind_of ws t.value) t.kind;
  place = t.place;
  length = t.length;
  value = t.value;
}

-- each token with its kind among these keywords
abbrev pub rekinded : List Keyword → Stream → Stream
rekinded ws s = record { tokens = map (rekind ws) s.tokens; ending = s.ending }

-- some keyword has the spelling v
abbrev pub is_listed : List Keyword → ℕ → Bool
is_listed ws v = list_any (λ w. w.spelling == v) ws

-- every listed kind is 1 to 31
abbrev pub all_kinds : List Keyword → Bool
all_kinds = list_all (λ w. is_kind w.kind)
