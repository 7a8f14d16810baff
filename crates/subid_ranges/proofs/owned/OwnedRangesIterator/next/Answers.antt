use Rattle.std.proofs.Common.{◌∙◌, length, sym, ap, arith}
use Rattle.subid_ranges.specs.Owned.{owned_ranges}
use Rattle.subid_ranges.proofs.owned.OwnedRangesIterator.next.Goals as goal

pub lines-smaller : goal.lines-smaller
lines-smaller c = omega (arith, ap length c.in-Some.ensures.taken)

pub returns-clause-steps : goal.returns-clause-steps
returns-clause-steps c =
    let self = c.lines.self-inside in (
      sym c.self.view_is ∙ sym c.lines.invariant
          ∙ ap (owned_ranges self.owner.now self.uid) c.in_default.ensures.taken,
      ap (owned_ranges self.owner.now self.uid)
          (c.in_default.ensures.over c.in_default.ensures.taken),
    )
