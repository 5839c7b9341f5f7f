-- What opening a plan answers, and what the lexer gives then.
use Rattle.std.specs.Prelude.{ℕ, cond, List, length, Ok, Err, Result, nat_le}
use Rattle.source.specs.Streams.{Stream}
use Rattle.lexing.specs.Plans.{longest_plan, lexed_from}
use Rattle.lexer.specs.declared.opening.PlanRefusal.{PlanRefusal}
use Rattle.lexer.specs.declared.opening.PlanRefusal.TheVariants.{TooLong}

-- the number and the place of each refusal
abbrev pub number : PlanRefusal → ℕ
number TooLong = 8

abbrev pub place : PlanRefusal → ℕ
place TooLong = 0

-- a plan of more than 65,535 bytes is refused
abbrev pub open_answer : List ℕ → Result (Unit {0}) PlanRefusal
open_answer plan = cond (nat_le (length plan) longest_plan) (Ok tt) (Err TooLong)

-- the whole plan; a refusal leaves what there was
abbrev pub open_after : List ℕ → Stream → Stream
open_after plan old = cond (nat_le (length plan) longest_plan) (lexed_from 0 plan) old
