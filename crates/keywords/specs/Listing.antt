-- The keywords that a list of words holds.
use Rattle.std.specs.Prelude.{List}
use Rattle.streams.specs.declared.Keyword.{Keyword}
use Rattle.keywords.specs.declared.words.Words.{Words}

-- in the order in which they were listed
abbrev pub listing : Words → List Keyword
listing w = w.list.items
