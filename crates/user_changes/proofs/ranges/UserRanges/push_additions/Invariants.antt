use Rattle.std.proofs.Common.{◌≡◌, ◌++◌, map, take}
use Rattle.account_model.specs.UsermodRanges.{add_range}
use Rattle.command_values.specs.Ranges.{ids_named}
use Rattle.line_edits.specs.SeenEdits.{seen_edits}
use Rattle.line_edits.specs.SubidChanges.{subid_becomes}
use Rattle.user_changes.specs.Ranges.{owner_in}
use Rattle.user_changes.proofs.ranges.UserRanges.push_additions.Given as goal

-- behind the edits of before stand the additions so far
abbrev pub invariant-loop-ids : goal.invariant-loop-ids
invariant-loop-ids l =
    seen_edits subid_becomes l.edits.items
    ≡ seen_edits subid_becomes l.fn.edits.items
    ++ map (add_range (owner_in l.self)) (map ids_named (take l.ids-index l.ids-items))
