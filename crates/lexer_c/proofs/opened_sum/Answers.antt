use Rattle.std.proofs.Common.{◌≡◌, leb, [], length, sym, ap, ◌∙◌, ⊎_elim, arith}
use Rattle.std.proofs.lemmas.Bool.{cases_Bool, cond-true, cond-false}
use Rattle.source.specs.Streams.{Stream}
use Rattle.lexing.specs.Plans.{lexed_from}
use Rattle.lexing.proofs.Lexed.{end_there}
use Rattle.lexer.specs.Opening.{open_after}
use Rattle.lexer_c.specs.Sums.{sum}
use Rattle.lexer_c.proofs.opened_sum.Goals as goal

-- a plan that is refused leaves the empty plan, whose tokens come to nothing
pub returns-in-Err : goal.returns-in-Err
returns-in-Err c =
    let plan = c.args.plan.now in
    ⊎_elim
    (λ yes'. let opened = sym (cond-true (leb (length plan) 65535) _ _ yes') ∙ c.in-Err.ensures.answer in cc)
    (λ no'. let left : open_after plan (lexed_from 0 []) ≡ lexed_from 0 [] = cond-false _ _ _ no' in
    sym (ap (λ (s : Stream). sum 0 s.tokens) (left ∙ end_there [] 0 (omega arith))))
    (cases_Bool (leb (length plan) 65535))
