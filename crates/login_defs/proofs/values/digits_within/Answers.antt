use Rattle.std.proofs.Common.{◌≡◌, ◌<◌, ◌≤◌, ◌+◌, length, sym, ◌∙◌, ap, subst, Some, arith}
use Rattle.std.specs.Char.{digit_value}
use Rattle.std.specs.Str.Parse.{digits_value}
use Rattle.std.proofs.lemmas.List.{take_all}
use Rattle.std.proofs.lemmas.Str.Parse.{digits_value-take-le}
use Rattle.std.proofs.lemmas.Bool.Decides.{nat_tests}
use Rattle.login_defs.proofs.DigitLaws.{number-digits, number-past, next-value, digits-more}
use Rattle.login_defs.proofs.values.digits_within.Goals as goal

pub returns-then-value-from : goal.returns-then-value-from
returns-then-value-from c =
    let text = c.args.text.now in
    let place = c.loop-byte.byte-index in
    let next = next-value c.args.radix c.loop-byte.value c.from-in-loop-byte.result
    c.from-in-loop-byte-2.result c.from.result text place (omega arith)
    c.loop-byte.invariant.value c.from-in-loop-byte.ensures
    (c.from-in-loop-byte-2.ensures ∙ c.in_ok-digit.ensures.value.1) c.from.ensures
    in
    let below = digits_value-take-le c.args.radix text (place + 1) (omega arith) in
    let past : c.args.greatest < digits_value c.args.radix text = omega arith in
    sym (number-past c.args.greatest c.args.radix text past)

pub loop-byte-preserved : goal.loop-byte-preserved
loop-byte-preserved c =
    let text = c.args.text.now in
    let place = c.loop-byte.byte-index in
    record {
      value = next-value c.args.radix c.loop-byte.value c.from-in-loop-byte.result
          c.from-in-loop-byte-2.result c.from.result text place (omega arith)
          c.loop-byte.invariant.value c.from-in-loop-byte.ensures
          (c.from-in-loop-byte-2.ensures ∙ c.in_ok-digit.ensures.value.1) c.from.ensures;
      digits = digits-more c.args.radix text place c.loop-byte.invariant.digits
          (subst (λ byte. digit_value byte < c.args.radix) c.from.ensures
          c.in_ok-digit.ensures.value.0);
      bounded = omega arith;
    }

pub returns : goal.returns
returns c =
    let text = c.args.text.now in
    let some : 0 < length text = grind (arith, nat_tests) in
    let same : c.loop-byte.value ≡ digits_value c.args.radix text =
    c.loop-byte.invariant.value
    ∙ ap (digits_value c.args.radix) (take_all c.loop-byte.byte-index text (omega arith))
    in ap Some same ∙ sym (number-digits c.args.greatest c.args.radix text some
    (λ place low. c.loop-byte.invariant.digits place (omega arith))
    (subst (λ n. n ≤ c.args.greatest) same c.loop-byte.invariant.bounded))
