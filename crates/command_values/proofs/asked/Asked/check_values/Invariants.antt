use Rattle.std.proofs.Common.{◌≡◌, drop, not}
use Rattle.std.specs.Prelude.{find}
use Rattle.command_values.proofs.OptionLemmas.{values_in}
use Rattle.command_values.specs.Forms.{test_of}
use Rattle.command_values.proofs.asked.Asked.check_values.Given as goal

-- the first bad value among the options left is that among all
abbrev pub invariant-loop-option : goal.invariant-loop-option
invariant-loop-option l =
    find (λ value. not (test_of l.form value))
    (values_in l.letter (drop l.option-index l.option-items))
    ≡ find (λ value. not (test_of l.form value)) (values_in l.letter l.option-items)
