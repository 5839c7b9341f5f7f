use Rattle.std.proofs.Common.{◌≡◌, ◌+◌, length, Ok, sym, ap, ◌∙◌, arith, below_more}
use Rattle.lexing.specs.Plans.{is_digit, token}
use Rattle.lexing.proofs.Runs.{Passing, decimal_more, numeral_done, numeral_large}
use Rattle.lexer.proofs.scan.numeral.Goals as goal
use Rattle.lexer.proofs.scan.numeral.Goals.{Else-not-is_ascii_digit}

-- with the digit at hand, one more byte passes
passes : (c : Else-not-is_ascii_digit) → Passing is_digit c.args.rest.now (c.loop-length.length + 1)
passes c =
    below_more _ _ c.loop-length.invariant.passes
    (sym c.is_ascii_digit.ensures.value ∙ c.if-not-is_ascii_digit.false)

pub returns-then-not-is_ascii_digit : goal.returns-then-not-is_ascii_digit
returns-then-not-is_ascii_digit c =
    let l = c.loop-length in
    let stop = sym c.is_ascii_digit.ensures.value ∙ c.if-not-is_ascii_digit.true in
    ap Ok c.token.ensures
    ∙ numeral_done c.args.rest.now l.length l.value c.args.place (omega arith) l.invariant.passes (λ _. stop)
    l.invariant.small l.invariant.comes_to

pub returns-then-value-gt4294967295 : goal.returns-then-value-gt4294967295
returns-then-value-gt4294967295 c =
    let l = c.loop-length in
    let e = decimal_more c.args.rest.now l.length l.value c.loop-length-test.true l.invariant.comes_to in
    let pass = passes (goal.at.returns-then-value-gt4294967295 c).Else-not-is_ascii_digit in
    numeral_large c.args.rest.now (l.length + 1) _ c.args.place (omega arith) pass e
    (omega (arith, c.from.ensures, c.if-value-gt4294967295.true))

pub loop-length-preserved : goal.loop-length-preserved
loop-length-preserved c =
    let l = c.loop-length in
    rw c.from.ensures record {
      passes = passes (goal.at.loop-length-preserved c).Else-not-is_ascii_digit;
      comes_to = decimal_more c.args.rest.now l.length l.value c.loop-length-test.true l.invariant.comes_to;
      small = omega (arith, c.from.ensures, c.if-value-gt4294967295.false);
    }

pub returns : goal.returns
returns c =
    let l = c.loop-length in
    let all : length c.args.rest.now ≡ l.length = omega arith in
    ap Ok c.token-2.ensures ∙ ap (λ n. Ok (token 2 c.args.place n l.value)) all
    ∙ numeral_done c.args.rest.now l.length l.value c.args.place (omega arith) l.invariant.passes
    (λ lt. absurd (omega arith)) l.invariant.small l.invariant.comes_to
