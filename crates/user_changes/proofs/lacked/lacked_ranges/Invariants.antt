use Rattle.std.proofs.Common.{◌≡◌, ◌++◌, map, drop}
use Rattle.account_model.specs.UsermodRanges.{new_ranges}
use Rattle.command_values.specs.Ranges.{ids_named}
use Rattle.user_changes.specs.Ranges.{owner_in}
use Rattle.user_changes.proofs.lacked.lacked_ranges.Given as goal

-- those so far, and those of the ranges left, are those of all
abbrev pub invariant-loop-ids : goal.invariant-loop-ids
invariant-loop-ids l =
    map ids_named l.lacked.items
    ++ new_ranges (owner_in l.ranges) (map ids_named (drop l.ids-index l.ids-items)) l.lines
    ≡ new_ranges (owner_in l.ranges) (map ids_named l.ids-items) l.initial.lines
