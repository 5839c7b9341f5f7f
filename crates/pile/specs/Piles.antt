-- The stream of a plan under a limit over keywords, and what is refused of it.
use Rattle.std.specs.Prelude.{ℕ, List, [], ◌∷◌, ◌++◌, Ok, Err, Result}
use Rattle.source.specs.Streams.{Stream}
use Rattle.streams.specs.declared.Keyword.{Keyword}
use Rattle.streams.specs.Limited.{limited}
use Rattle.streams.specs.Rekinded.{rekinded}
use Rattle.lexing.specs.Plans.{lexed_from}
use Rattle.lexer.specs.declared.opening.PlanRefusal.{PlanRefusal}
use Rattle.lexer.specs.declared.Lexer.{Lexer}
use Rattle.lexer.specs.Looking.{stream}
use Rattle.lexer.specs.Opening as plan
use Rattle.keywords.specs.declared.refusal.KeywordRefusal.{KeywordRefusal}
use Rattle.keywords.specs.declared.Keywords.{Keywords}
use Rattle.keywords.specs.Listing.{listing}
use Rattle.limit.specs.declared.Limit.{Limit}
use Rattle.keywords.specs.Adding as word
use Rattle.keywords.specs.Adding.{add_answer}
use Rattle.pile.specs.declared.Plan as given
use Rattle.pile.specs.declared.PileRefusal.{PileRefusal}
use Rattle.pile.specs.declared.PileRefusal.TheVariants.{Plan, Word}

-- the number and the place of each refusal
abbrev pub number : PileRefusal → ℕ
number (Plan r) = plan.number r
number (Word r) = word.number r

abbrev pub place : PileRefusal → ℕ
place (Plan r) = plan.place r
place (Word r) = word.place r

-- the first n tokens of a plan, with the kinds of the keywords; the limit is layer 2
abbrev pub piled : List ℕ → List Keyword → ℕ → Stream
piled bytes ws n = limited 2 n (rekinded ws (lexed_from 0 bytes))

-- the stream of a plan that is given with its keywords and its limit
abbrev pub plan_stream : given.Plan → Stream
plan_stream p = piled p.text.now p.words.now p.limit

-- what a limit over keywords over a lexer still has to give
abbrev pub stream_of : Limit (Keywords Lexer) → Stream
stream_of s = limited 2 s.left (rekinded (listing s.below.words) (stream s.below.below))

abbrev pub Added : Type 0
Added = Result (Unit {0}) KeywordRefusal

-- the first refusal of two answers
abbrev pub and_then : Added → Added → Added
and_then (Ok u) r = r
and_then (Err e) r = Err e

-- what listing keywords one by one, behind those of ws, answers
abbrev pub add_all : List Keyword → List Keyword → Added
add_all ws [] = Ok tt
add_all ws (w ∷ more) = and_then (add_answer ws w) (add_all (ws ++ (w ∷ [])) more)

-- the refusal of a keyword, as that of a pile
abbrev word_refused : Added → Result (Unit {0}) PileRefusal
word_refused (Ok u) = Ok tt
word_refused (Err e) = Err (Word e)

abbrev plan_refused : Result (Unit {0}) PlanRefusal → Added → Result (Unit {0}) PileRefusal
plan_refused (Ok u) added = word_refused added
plan_refused (Err e) added = Err (Plan e)

-- what is refused of a plan and its keywords: the plan first, then the first keyword that cannot be listed
abbrev pub pile_answer : List ℕ → List Keyword → Result (Unit {0}) PileRefusal
pile_answer bytes ws = plan_refused (plan.open_answer bytes) (add_all [] ws)

-- what is refused of a plan that is given with its keywords and its limit
abbrev pub plan_answer : given.Plan → Result (Unit {0}) PileRefusal
plan_answer p = pile_answer p.text.now p.words.now
