use Rattle.std.proofs.Common.{◌<◌, length, sym, ◌∙◌, arith}
use Rattle.std.proofs.lemmas.Bool.Decides.{nat_tests}
use Rattle.acct_text.proofs.Digits.{all_digits}
use Rattle.acct_text.proofs.NumberLaws.{number_of-other}
use Rattle.acct_text.proofs.numbers.read_decimal.Goals as goal

-- the fault is the first byte that is no digit
pub returns-in-Some : goal.returns-in-Some
returns-in-Some c =
    let text = c.args.text.now in
    let some : 0 < length text = grind (arith, nat_tests) in
    let other = sym c.place_of_other.ensures ∙ c.in-Some.is in
    sym (number_of-other c.args.max text c.in-Some.place some other)

-- what passed both tests is a numeral
pub value_of-requires : goal.value_of-requires
value_of-requires c =
    let some : 0 < length c.args.text.now = grind (arith, nat_tests) in
    (some, all_digits c.args.text.now (sym c.place_of_other.ensures ∙ c.in_default.is))
