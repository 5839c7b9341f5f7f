use Rattle.std.proofs.Common.{◌≡◌, ◌+◌, ◌*◌, ◌^◌, ◌<◌, ◌≤◌, length, get_or, Ok, sym, ap, ◌∙◌, arith, below_more, pow_mono}
use Rattle.lexing.specs.Plans.{is_letter, token}
use Rattle.lexing.proofs.Runs.{Passing, spelled_more, spelled_room, word_done, word_long}
use Rattle.lexer.proofs.scan.word.Goals as goal
use Rattle.lexer.proofs.scan.word.Goals.{Else-not-is_ascii_lowercase}

-- with the letter at hand, one more byte passes
passes : (c : Else-not-is_ascii_lowercase) → Passing is_letter c.args.rest.now (c.loop-length.length + 1)
passes c =
    below_more _ _ c.loop-length.invariant.passes
    (sym c.is_ascii_lowercase.ensures.value ∙ c.if-not-is_ascii_lowercase.false)

pub returns-then-not-is_ascii_lowercase : goal.returns-then-not-is_ascii_lowercase
returns-then-not-is_ascii_lowercase c =
    let l = c.loop-length in
    let stop = sym c.is_ascii_lowercase.ensures.value ∙ c.if-not-is_ascii_lowercase.true in
    ap Ok c.token.ensures
    ∙ word_done c.args.rest.now l.length l.value c.args.place (omega arith) l.invariant.passes (λ _. stop)
    l.invariant.few l.invariant.comes_to

pub returns-then-length-eq8 : goal.returns-then-length-eq8
returns-then-length-eq8 c =
    let l = c.loop-length in
    word_long c.args.rest.now (l.length + 1) l.value c.args.place (omega arith)
    (passes (goal.at.returns-then-length-eq8 c).Else-not-is_ascii_lowercase) (omega arith)

pub overflow_add-value : goal.overflow_add-value
overflow_add-value c =
    let l = c.loop-length in
    let i = l.length in
    let low : get_or c.args.rest.now i 0 < 256 = omega (arith, c.type_inv.rest i) in
    let room = spelled_room c.args.rest.now i l.value l.invariant.small low in
    let top : 2 ^ (8 * (i + 1)) ≤ 2 ^ 64 = pow_mono {i = 8 * (i + 1)} {j = 64} (omega arith) in
    omega (arith, c.from.ensures)

pub loop-length-preserved : goal.loop-length-preserved
loop-length-preserved c =
    let l = c.loop-length in
    let low : get_or c.args.rest.now l.length 0 < 256 = omega (arith, c.type_inv.rest l.length) in
    rw c.from.ensures record {
      passes = passes (goal.at.loop-length-preserved c).Else-not-is_ascii_lowercase;
      comes_to = spelled_more c.args.rest.now l.length l.value c.loop-length-test.true l.invariant.comes_to;
      few = omega arith;
      small = spelled_room c.args.rest.now l.length l.value l.invariant.small low;
    }

pub returns : goal.returns
returns c =
    let l = c.loop-length in
    let all : length c.args.rest.now ≡ l.length = omega arith in
    ap Ok c.token-2.ensures ∙ ap (λ n. Ok (token 1 c.args.place n l.value)) all
    ∙ word_done c.args.rest.now l.length l.value c.args.place (omega arith) l.invariant.passes
    (λ lt. absurd (omega arith)) l.invariant.few l.invariant.comes_to
