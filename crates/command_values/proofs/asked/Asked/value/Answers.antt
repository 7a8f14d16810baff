use Rattle.std.proofs.Common.{◌∙◌, ◌+◌, sym, ap, drop}
use Rattle.std.specs.Option.{option_or, option_copied}
use Rattle.account_model.specs.Text.{last_of}
use Rattle.command_values.proofs.OptionLemmas.{values_in, last-from}
use Rattle.command_values.proofs.asked.Asked.value.Goals as goal
use Rattle.command_values.proofs.asked.Asked.value.Goals.{in-Some, in_default}

pub loop-option-preserved : goal.loop-option-preserved
loop-option-preserved c =
    let options = c.options-option-items.result.now in
    let place = c.loop-option.option-index in
    let letter = c.args.letter in
    let behind = last_of (values_in letter (drop (place + 1) options)) in
    let before = option_copied c.loop-option.last in
    let step =
    last-from letter options place c.option-item.result before c.loop-option-test.true
    c.option-item.is in
    elim c.match-value_at.branch [
      | in-Some w ↦
          ap (λ last. option_or behind (option_copied last)) w.last-is
          ∙ ap (λ value. option_or behind (option_or value before)) (w.in-Some.ensures {u = tt})
          ∙ sym step ∙ c.loop-option.invariant
      | in_default w ↦
          ap (λ last. option_or behind (option_copied last)) w.last-is
          ∙ ap (λ value. option_or behind (option_or value before))
          (sym (ap option_copied w.in_default.is) ∙ c.value_at.ensures)
          ∙ sym step ∙ c.loop-option.invariant
    ]
