use Rattle.std.proofs.Common.{◌∙◌, arith, drop, subst, sym, ◌++◌}
use Rattle.std.proofs.lemmas.List.{take_all}
use Rattle.subid_ranges.specs.RangeNumbers.{LosesRanges}
use Rattle.subid_ranges.proofs.RangeNumbersLemmas.{apart-behind, item-written, lost-behind, lost-more}
use Rattle.subid_ranges.proofs.range_numbers.RangeNumbers.remove_each.Goals as goal

-- one more of the ranges goes
pub pieces-preserved : goal.pieces-preserved
pieces-preserved c =
    lost-more c.args.ranges.now c.pieces.range-index c.args.self.now c.pieces.self
    c.pieces.invariant c.range-item.result c.remove.new.self (omega arith) c.range-item.is
    (c.in_ok-remove.ensures.removed c.if-not-branch.false)

-- the ranges lie apart, so that each goes
pub returns-then-not-branch-clause-answered : goal.returns-then-not-branch-clause-answered
returns-then-not-branch-clause-answered c = λ kept are written apart.
    let ranges = c.args.ranges.now in
    let index = c.pieces.range-index in
    let old = c.args.self.now in
    let between = c.pieces.self in
    sym c.if-not-branch.true
    ∙ (c.in_ok-remove.ensures.answered (drop index ranges ++ kept)
    (lost-behind ranges index old between c.pieces.invariant kept are)
    (item-written ranges index c.range-item.result written (omega arith) c.range-item.is)).1
    (apart-behind ranges index old between c.pieces.invariant kept apart)

-- all ranges are gone
pub returns-clause-removed : goal.returns-clause-removed
returns-clause-removed c = λ _.
    subst (λ gone. LosesRanges gone c.args.self.now c.pieces.self)
    (take_all c.pieces.range-index c.args.ranges.now (omega arith)) c.pieces.invariant
