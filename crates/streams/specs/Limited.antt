-- What is left of a stream when at most n of its tokens pass.
use Rattle.std.specs.Prelude.{ℕ, List, [], ◌∷◌, take, drop}
use Rattle.syntax.specs.declared.Token.{Token}
use Rattle.source.specs.declared.SourceFault.TheVariants.{TooManyTokens}
use Rattle.source.specs.Streams.{Ending, fault, Stream}

-- the ending of a limit at this layer, where these tokens stand behind those that pass
abbrev pub ending_before : ℕ → List Token → Ending → Ending
ending_before layer [] e = e
ending_before layer (t ∷ ts) e = fault (TooManyTokens t.place layer)

-- the first n tokens; a further one is a fault of this layer, at its place
abbrev pub limited : ℕ → ℕ → Stream → Stream
limited layer n s = record {
  tokens = take n s.tokens;
  ending = ending_before layer (drop n s.tokens) s.ending;
}
