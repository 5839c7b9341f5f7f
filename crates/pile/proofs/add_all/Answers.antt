use Rattle.std.proofs.Common.{◌+◌, ◌++◌, drop, Err, sym, ap, ◌∙◌}
use Rattle.std.proofs.lemmas.List.{at_drop_all, take_all}
use Rattle.std.proofs.lemmas.Result.{err_from_is_err_and, IfOk-from_err}
use Rattle.keywords.specs.Listing.{listing}
use Rattle.pile.specs.Piles.{add_all}
use Rattle.pile.proofs.Row.{words_more, added_ok, answers_on, answers_here}
use Rattle.pile.proofs.add_all.Goals as goal

pub returns-in_err-add : goal.returns-in_err-add
returns-in_err-add g c =
    let l = c.loop-word in
    let told = c.in_err-add.ensures in
    let out = err_from_is_err_and c.from_residual.result c.from_residual.ensures.1 in
    let before = listing c.args.keywords.now.words in
    let words = c.args.words.now in
    let here = answers_here before _ words l.word-index _ c.loop-word-test.true _ told.answer in
    record {
      answer = out.1 ∙ ap Err out.2 ∙ here ∙ l.invariant.1;
      listed = IfOk-from_err c.from_residual.result _ c.from_residual.ensures.0;
      below = told.below ∙ l.invariant.2;
    }

pub loop-word-preserved : goal.loop-word-preserved
loop-word-preserved g c =
    let l = c.loop-word in
    let told = c.in_ok-add.ensures in
    let before = listing c.args.keywords.now.words in
    let words = c.args.words.now in
    let lt = c.loop-word-test.true in
    let now = told.words ∙ added_ok before _ words l.word-index _ lt told.answer in
    let on = answers_on before _ words l.word-index _ lt told.answer in (
      now ∙ words_more before _ words l.word-index _ lt l.invariant.0,
      ap (λ ws. add_all ws (drop (l.word-index + 1) words)) now ∙ on ∙ l.invariant.1,
      told.below ∙ l.invariant.2,
    )

pub returns : goal.returns
returns g c =
    let l = c.loop-word in
    let over = c.loop-word-test.false in
    let before = listing c.args.keywords.now.words in
    let words = c.args.words.now in
    record {
      answer = sym (at_drop_all (add_all (listing l.keywords.words)) words l.word-index over) ∙ l.invariant.1;
      listed = l.invariant.0 ∙ ap (λ ws. before ++ ws) (take_all l.word-index words over);
      below = l.invariant.2;
    }
