-- The script is carried out for the action that the tool answers on the tables.
use Rattle.std.proofs.Common.{◌≡◌, [], subst, sym}
use Rattle.std.specs.Prelude.{IsOkAnd}
use Rattle.account_model.specs.Action.{outcome_of}
use Rattle.account_model.specs.Batch.{written_by}
use Rattle.account_model.specs.Change.{action_of}
use Rattle.suite_tools.specs.Carrying.{written_with}
use Rattle.suite_tools.proofs.AnswerLemmas.{fault-told, of-action}
use Rattle.suite_tools.proofs.CarryLemmas.{fault-carried, outcome-made, written-made}
use Rattle.suite_tools.proofs.carry.carry_out.Goals as goal

pub returns-in_err-touched-in-Edits : goal.returns-in_err-touched-in-Edits
returns-in_err-touched-in-Edits c settings holds =
    let asked = c.args.asked.now in
    let tables = c.args.tables.now in
    let action = action_of asked [] c.args.day tables settings in
    let is = of-action c.args.defs.now c.args.day asked c.args.files.now tables c.of.result
    c.in_ok-script.field-0 c.in-Edits.script c.in-Edits.output settings holds c.of.ensures
    c.in-Edits.is (c.in_ok-script.ensures {u = tt}) in
    fault-told asked.tool (outcome_of action tables) tables c.carry_out.new.self
    c.in_err-touched-in-Edits.field-0.0 c.from_residual-in_err-touched-in-Edits.result
    c.from_residual-in_err-touched-in-Edits.ensures.0
    c.from_residual-in_err-touched-in-Edits.ensures.1
    (fault-carried asked.tool action c.in-Edits.script c.in-Edits.output tables is
    c.carry_out.new.self _ (c.in_err-touched-in-Edits.ensures {u = tt}))

pub returns : goal.returns
returns c settings holds =
    let asked = c.args.asked.now in
    let tables = c.args.tables.now in
    let is = of-action c.args.defs.now c.args.day asked c.args.files.now tables c.of.result
    c.in_ok-script.field-0 c.in-Edits.script c.in-Edits.output settings holds c.of.ensures
    c.in-Edits.is (c.in_ok-script.ensures {u = tt}) in
    let action = action_of asked [] c.args.day tables settings in
    let made = c.in_ok-touched-in-Edits.ensures {u = tt} in (
      subst (λ outcome. IsOkAnd outcome
          (λ made. written_by asked.tool made ≡ written_with c.carry_out.new.self c.in-Edits.output))
          (sym (outcome-made asked.tool action c.in-Edits.script c.in-Edits.output tables is made.single))
          (written-made asked.tool action c.in-Edits.script c.in-Edits.output tables is
          c.carry_out.new.self made.made),
      made.left,
    )
