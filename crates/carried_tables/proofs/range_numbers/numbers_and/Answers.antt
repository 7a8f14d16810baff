use Rattle.std.proofs.Common.{subst}
use Rattle.std.specs.Prelude.{IfSome}
use Rattle.subid_ranges.specs.RangeNumbers.{AreNumbersOf}
use Rattle.carried_tables.proofs.range_numbers.numbers_and.Goals as goal

-- the numbers of the range come
pub returns : goal.returns
returns c = λ others are.
    c.in_ok-add.ensures {u = tt} others
    (subst (λ known. IfSome known (AreNumbersOf others)) c.in-Some.is are)
