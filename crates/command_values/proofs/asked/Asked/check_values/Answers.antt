use Rattle.std.proofs.Common.{◌∙◌, ◌+◌, drop, sym, ap}
use Rattle.std.specs.Prelude.{not, find, option_and_then}
use Rattle.command_values.specs.Forms.{form_refusal, test_of}
use Rattle.command_values.specs.Options.{value_at}
use Rattle.command_values.proofs.OptionLemmas.{values_in, values-from, find-passed}
use Rattle.command_values.proofs.asked.Asked.check_values.Goals as goal

pub loop-option-preserved : goal.loop-option-preserved
loop-option-preserved c =
    let options = c.options-option-items.result.now in
    let place = c.loop-option.option-index in
    let option = c.option-item.result in
    let letter = c.args.letter in
    let form = c.args.form in
    let step = values-from letter options place option c.loop-option-test.true c.option-item.is in
    let none = ap (option_and_then (form_refusal letter form)) (sym c.value_at.ensures)
    ∙ c.in_ok-check_form.ensures {u = tt} in
    let passed = find-passed letter form (value_at letter option)
    (values_in letter (drop (place + 1) options)) none in
    sym passed ∙ ap (find (λ value. not (test_of form value))) (sym step) ∙ c.loop-option.invariant
