use Rattle.std.proofs.Common.{◌≡◌, ◌++◌, Some, Ok, ap, ◌∙◌, ap₂}
use Rattle.source.specs.Streams.{answer}
use Rattle.tokens.proofs.Steps.{listed_more}
use Rattle.tokens.proofs.listed_plan.list.Goals as goal

pub loop-token-preserved : goal.loop-token-preserved
loop-token-preserved g c =
    let s = g.S.Source.meaning c.loop-token.source in
    let told = c.in-Ok-Some.ensures in
    let taken : Ok (Some c.in-Ok-Some.token) ≡ answer s = cc in
    let more = listed_more s c.in-Ok-Some.token _ _ taken c.loop-token.invariant.0 in (
      ap₂ (λ before to_come. before ++ to_come.tokens) c.in_ok-push-in-Ok-Some.ensures.items told.after ∙ more,
      ap (λ m. m.ending) told.after ∙ c.loop-token.invariant.1,
    )
