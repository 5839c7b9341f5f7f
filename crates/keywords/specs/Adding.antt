-- What listing a keyword answers, and which keywords there are then.
use Rattle.std.specs.Prelude.{ℕ, cond, not, List, [], ◌∷◌, ◌++◌, length, Ok, Err, Result, ◌==◌, nat_lt}
use Rattle.streams.specs.declared.Keyword.{Keyword}
use Rattle.streams.specs.Listed.{is_kind}
use Rattle.streams.specs.Rekinded.{is_listed}
use Rattle.keywords.specs.declared.refusal.KeywordRefusal.{KeywordRefusal}
use Rattle.keywords.specs.declared.refusal.KeywordRefusal.TheVariants.{
  KindOutOfRange,
  NoSpelling,
  AlreadyListed,
  NoRoom,
}

-- the number and the place of each refusal
abbrev pub number : KeywordRefusal → ℕ
number KindOutOfRange = 14
number NoSpelling = 14
number AlreadyListed = 14
number NoRoom = 20

abbrev pub place : KeywordRefusal → ℕ
place KindOutOfRange = 0
place NoSpelling = 0
place AlreadyListed = 0
place NoRoom = 0

-- how many keywords there may be
abbrev pub most : ℕ
most = 16

-- what adding w to these keywords answers
abbrev pub add_answer : List Keyword → Keyword → Result (Unit {0}) KeywordRefusal
add_answer ws w =
    cond (not (is_kind w.kind)) (Err KindOutOfRange)
    (cond (w.spelling == 0) (Err NoSpelling)
    (cond (is_listed ws w.spelling) (Err AlreadyListed)
    (cond (nat_lt (length ws) most) (Ok tt) (Err NoRoom))))

abbrev pub kept : Result (Unit {0}) KeywordRefusal → List Keyword → Keyword → List Keyword
kept (Ok u) ws w = ws ++ (w ∷ [])
kept (Err r) ws w = ws

-- the keywords after that: w is the last of them, or was refused
abbrev pub added : List Keyword → Keyword → List Keyword
added ws w = kept (add_answer ws w) ws w
