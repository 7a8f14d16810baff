use Rattle.std.proofs.Common.{sym, ap, subst, Ok, ◌≡◌, ◌∙◌, ◌+◌, ◌≤◌, ◌<◌, get_or, arith}
use Rattle.std.specs.Str.Parse.{digits_value}
use Rattle.std.proofs.lemmas.List.{take_all}
use Rattle.std.proofs.lemmas.Str.{digit_value_digit}
use Rattle.std.proofs.lemmas.Str.Parse.{digit_at, digits_value-take-le}
use Rattle.std.proofs.lemmas.Int.Digits.{digits_value_more}
use Rattle.acct_text.proofs.NumberLaws.{number_of-past, number_of-within}
use Rattle.acct_text.proofs.numbers.value_of.Goals as goal

-- a digit isn't below the byte of 0
pub overflow_sub-digit : goal.overflow_sub-digit
overflow_sub-digit c =
    (digit_at c.args.text.now c.loop-digit.digit-index c.requires.1 (omega arith)).0

-- once the digits so far pass the bound, all digits do
pub returns-then-next-from : goal.returns-then-next-from
returns-then-next-from c =
    let text = c.args.text.now in
    let at = c.loop-digit.digit-index in
    let in_range = digit_at text at c.requires.1 (omega arith) in
    let value = digit_value_digit (get_or text at 0) in_range in
    let step = digits_value_more 10 text at (omega arith) in
    let below = digits_value-take-le 10 text (at + 1) (omega arith) in
    let large : c.args.max < digits_value 10 text = omega arith in
    sym (number_of-past c.args.max text c.requires large)

-- one more digit makes the value of one digit more
pub loop-digit-preserved : goal.loop-digit-preserved
loop-digit-preserved c =
    let text = c.args.text.now in
    let at = c.loop-digit.digit-index in
    let in_range = digit_at text at c.requires.1 (omega arith) in
    let value = digit_value_digit (get_or text at 0) in_range in
    let step = digits_value_more 10 text at (omega arith) in
    record { value = omega arith; small = omega arith }

-- the value of all digits is the number
pub returns : goal.returns
returns c =
    let text = c.args.text.now in
    let all = take_all c.loop-digit.digit-index text (omega arith) in
    let same : c.loop-digit.value ≡ digits_value 10 text =
    c.loop-digit.invariant.value ∙ ap (digits_value 10) all in
    let small = subst (λ n. n ≤ c.args.max) same c.loop-digit.invariant.small in
    ap Ok same ∙ sym (number_of-within c.args.max text c.requires small)
