use Rattle.std.proofs.Common.{◌≡◌, drop}
use Rattle.std.specs.Option.{option_or, option_copied}
use Rattle.account_model.specs.Text.{last_of}
use Rattle.command_values.proofs.OptionLemmas.{values_in}
use Rattle.command_values.proofs.asked.Asked.value.Given as goal

-- the last value of the options left, and else that of the options so far, is the last of all
abbrev pub invariant-loop-option : goal.invariant-loop-option
invariant-loop-option l =
    option_or (last_of (values_in l.letter (drop l.option-index l.option-items)))
    (option_copied l.last)
    ≡ last_of (values_in l.letter l.option-items)
