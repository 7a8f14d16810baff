use Rattle.std.proofs.Common.{take}
use Rattle.std.specs.List.{AllByRecursion}
use Rattle.carried_tables.specs.RangeRemovals.{KeepsApart}
use Rattle.line_edits.specs.SeenEdits.{seen_edits}
use Rattle.line_edits.specs.SubidChanges.{subid_becomes}
use Rattle.carried_tables.proofs.range_edits.removals_of.Given as goal

-- the edits so far keep what is apart from the IDs so far
abbrev pub invariant-edits : goal.invariant-edits
invariant-edits l =
    AllByRecursion (KeepsApart l.owner l.cut.uid l.ids)
    (seen_edits subid_becomes (take l.index l.edits))
