use Rattle.std.proofs.Common.{◌≡◌, ◌++◌, take}
use Rattle.std.specs.Prelude.{flat_map}
use Rattle.line_edits.specs.SubidChanges.{subid_becomes}
use Rattle.carried_tables.proofs.cut_ranges.push_changed.Given as goal

-- what becomes of the ranges so far is added
abbrev pub invariant-pieces : goal.invariant-pieces
invariant-pieces l = l.left.items
    ≡ l.initial.left.items ++ flat_map (subid_becomes l.change) (take l.range-index l.ranges)
