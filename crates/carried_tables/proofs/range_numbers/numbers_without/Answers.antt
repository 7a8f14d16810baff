use Rattle.std.proofs.Common.{◌≡◌, true, subst, rules}
use Rattle.std.specs.Prelude.{IfSome}
use Rattle.carried_tables.specs.RangeNumbers.{AreNumbersIn}
use Rattle.carried_tables.proofs.NumberLemmas.{numbers-lost}
use Rattle.carried_tables.proofs.range_numbers.numbers_without.Goals as goal

-- the numbers of the owner's ranges go
pub returns : goal.returns
returns c =
    let file = c.args.table.now in
    let told : c.in_ok-remove_each.field-0 ≡ true = search rules in
    numbers-lost c.args.owner.now _ file c.in-Some.numbers
    c.remove_each.new.self
    (search rules)
    (subst (λ known. IfSome known (AreNumbersIn file)) c.in-Some.is c.requires)
    (c.in_ok-remove_each.ensures.removed told)
