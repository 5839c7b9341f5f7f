-- Spans: from the smallest place of some tokens to the largest place behind one.
use Rattle.std.specs.Prelude.{ℕ, ◌+◌, List, ◌++◌, codes, decimal, min, max, cond, ◌==◌}
use Rattle.syntax.specs.declared.Token.{Token}
use Rattle.measure.specs.declared.spans.Span.{Span}

-- from a to before b
abbrev pub span : ℕ → ℕ → Span
span a b = record { start = a; end = b }

-- a token covers its length from its place on
abbrev pub of_token : Token → Span
of_token t = span t.place (t.place + t.length)

-- the largest place of 32 bits
abbrev pub last_place : ℕ
last_place = 4294967295

-- the span of no token
abbrev pub nowhere : Span
nowhere = span last_place 0

-- the smaller of two places; the last one stands above all numbers
abbrev pub earlier : ℕ → ℕ → ℕ
earlier x y = cond (x == last_place) y (cond (y == last_place) x (min x y))

-- the span around two
abbrev pub hull : Span → Span → Span
hull x y = span (earlier x.start y.start) (max x.end y.end)

-- as it is printed: its first place and the place behind its last
abbrev pub words : Span → List ℕ
words s = decimal s.start ++ codes " " ++ decimal s.end
