use Rattle.std.proofs.Common.{refl, arith}
use Rattle.subid_ranges.proofs.FileLines.{written-range}
use Rattle.subid_ranges.proofs.RangeNumbersLemmas.{numbers-fewer}
use Rattle.subid_ranges.proofs.range_numbers.RangeNumbers.remove.Goals as goal

pub returns-in_ok-remove-in-Some-clause-removed : goal.returns-in_ok-remove-in-Some-clause-removed
returns-in_ok-remove-in-Some-clause-removed c = λ _ before behind are.
    numbers-fewer before behind c.args.range.now c.args.self.now _ are c.in-Some.last c.if-self.true
    refl c.in-Some.ensures.0 c.in_ok-remove-in-Some.ensures

-- the ranges lie apart
pub returns-in_ok-remove-in-Some-clause-answered :
    goal.returns-in_ok-remove-in-Some-clause-answered
returns-in_ok-remove-in-Some-clause-answered c = λ ranges are written.
    (λ _. are.apart.0 c.if-self.true, λ _. refl)

-- a line holds no such range
pub returns-in_default-2-clause-answered : goal.returns-in_default-2-clause-answered
returns-in_default-2-clause-answered c = λ ranges are written.
    let held = written-range c.args.range.now written in
    let past = c.in_default.ensures held.some in
    absurd (omega (arith, past, held.last))
