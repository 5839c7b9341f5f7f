-- Outcomes, halts and declined calls as they are printed.
use Rattle.std.specs.Prelude.{ℕ, List, [], ◌++◌, Some, None, Option, codes, decimal}
use Rattle.syntax.specs.Told.{number_at_place}
use Rattle.outcome.specs.declared.Outcome.{Outcome}
use Rattle.outcome.specs.declared.Outcome.TheVariants.{More, Accepted, Rejected, Halted, Stopped}
use Rattle.outcome.specs.Numbers.{Notice, of_halt}

-- the layer that tells it, if one does
abbrev pub layer_words : Option ℕ → List ℕ
layer_words None = []
layer_words (Some l) = codes " layer " ++ decimal l

-- as in `9 at 3 layer 0` or `22 at 700`
abbrev pub notice_words : Notice → List ℕ
notice_words n = number_at_place n.number n.place ++ layer_words n.layer

-- where it was rejected
abbrev pub at_words : Option ℕ → List ℕ
at_words None = codes "the end"
at_words (Some p) = decimal p

-- as in `accepted`, `rejected at 3` or `halted 9 at 3 layer 0`
abbrev pub outcome_words : Outcome → List ℕ
outcome_words More = codes "more"
outcome_words Accepted = codes "accepted"
outcome_words (Rejected p) = codes "rejected at " ++ at_words p
outcome_words (Halted h) = codes "halted " ++ notice_words (of_halt h)
outcome_words Stopped = codes "stopped"
