use Rattle.std.proofs.Common.{◌≡◌, drop, map, ◌++◌}
use Rattle.std.specs.Prelude.{filter_map}
use Rattle.account_model.specs.UsermodRanges.{range_value}
use Rattle.command_values.specs.Ranges.{ids_named}
use Rattle.command_values.proofs.OptionLemmas.{values_in}
use Rattle.command_values.proofs.asked.Asked.ranges.Given as goal

-- the ranges so far and those of the options left are all
abbrev pub invariant-loop-option : goal.invariant-loop-option
invariant-loop-option l =
    map ids_named l.ranges.items
    ++ filter_map range_value (values_in l.letter (drop l.option-index l.option-items))
    ≡ filter_map range_value (values_in l.letter l.option-items)
