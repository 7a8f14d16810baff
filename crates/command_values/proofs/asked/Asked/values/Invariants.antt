use Rattle.std.proofs.Common.{◌≡◌, drop, ◌++◌}
use Rattle.command_values.proofs.OptionLemmas.{values_in}
use Rattle.command_values.proofs.asked.Asked.values.Given as goal

-- the values so far and those of the options left are all
abbrev pub invariant-loop-option : goal.invariant-loop-option
invariant-loop-option l =
    l.values ++ values_in l.letter (drop l.option-index l.option-items)
    ≡ values_in l.letter l.option-items
