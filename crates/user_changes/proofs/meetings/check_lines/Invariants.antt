use Rattle.std.proofs.Common.{◌≡◌, map, drop}
use Rattle.account_model.specs.UsermodRanges.{first_meeting}
use Rattle.command_values.specs.Ranges.{ids_named}
use Rattle.user_changes.specs.Ranges.{owner_in}
use Rattle.user_changes.proofs.meetings.check_lines.Given as goal

-- what meets a line first among the ranges left is that among all
abbrev pub invariant-loop-ids : goal.invariant-loop-ids
invariant-loop-ids l =
    first_meeting l.tab (owner_in l.ranges) (map ids_named (drop l.ids-index l.ids-items)) l.lines
    ≡ first_meeting l.tab (owner_in l.ranges) (map ids_named l.ids-items) l.initial.lines
