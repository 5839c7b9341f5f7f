use Rattle.std.proofs.Common.{◌≡◌, ◌++◌, length, vec_items}
use Rattle.tokens.proofs.listed_plan.list.Given as goal

-- the tokens so far and those to come are all tokens, and the ending stays
abbrev pub invariant-loop-token : goal.invariant-loop-token
invariant-loop-token g l =
    let to_come = g.S.Source.meaning l.source in
    let all = g.S.Source.meaning l.initial.source in
    (vec_items l.tokens ++ to_come.tokens ≡ all.tokens) × (to_come.ending ≡ all.ending)

abbrev pub decreases-loop-token : goal.decreases-loop-token
decreases-loop-token g l = length (g.S.Source.meaning l.source).tokens
