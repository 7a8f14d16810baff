-- Each answer of the tool is told of what was opened, which is the files, and becomes the decision.
use Rattle.std.proofs.Common.{◌≤◌, ◌∙◌, Bool, Ok, Err, ap, subst, sym, arith}
use Rattle.std.proofs.lemmas.Result.{IfOk-weaker}
use Rattle.account_model.specs.Batch.{ensures}
use Rattle.account_model.specs.Records.{greatest_days}
use Rattle.account_model.specs.Request.{Request}
use Rattle.account_model.specs.WrittenScript.{IsWrittenScript}
use Rattle.account_model.specs.declared.tool.Tool.{Tool}
use Rattle.option_words.specs.Parsed.{request_in}
use Rattle.tool_answers.specs.declared.decision.Decision.TheVariants.{Refuse}
use Rattle.tool_answers.specs.declared.tool_fault.ToolFault.TheVariants.{Refused}
use Rattle.tool_answers.specs.Decisions.{refusal_output}
use Rattle.suite_tools.specs.Carrying.{EditsDecide}
use Rattle.suite_tools.specs.Deciding.{LinesDecideUnder}
use Rattle.suite_tools.specs.declared.answer.Answered.TheVariants.{Edits, Decides as DecidesAlone, Lines}
use Rattle.suite_tools.proofs.DecideLemmas.{alone-decides, edits-decide, lines-decide, on-files, refusal-decides}
use Rattle.suite_tools.proofs.dispatch.decide.Goals as goal

pub decide_edits-requires : goal.decide_edits-requires
decide_edits-requires c =
    let request = request_in c.args.parsed.now in
    let told = on-files c.args.defs.now c.args.day request c.args.input.now c.args.files.now _ _ _
    (Ok c.in-Ok-Edits.field-0) (Ok (Edits c.in-Ok-Edits.script c.in-Ok-Edits.output))
    c.of.ensures c.as_slice-text.ensures (c.of-2.ensures ∙ c.in_ok-tables.ensures)
    (ap Ok c.in-Ok-Edits.field-0-is) c.in-Ok-Edits.ensures in
    let of_action = told.1 c.requires.held.settings c.requires.held.held in
    let in_time : c.args.day ≤ greatest_days = omega arith in
    record {
      are = c.in_ok-tables.ensures;
      written = subst IsWrittenScript (sym of_action.0.edits)
          (c.tools_are_written.ensures request c.args.input.now c.args.day c.args.files.now
          c.requires.held.settings in_time of_action.0.unrefused);
    }

pub returns-in-Ok-Edits : goal.returns-in-Ok-Edits
returns-in-Ok-Edits c =
    let request = request_in c.args.parsed.now in
    let told = on-files c.args.defs.now c.args.day request c.args.input.now c.args.files.now _ _ _
    (Ok c.in-Ok-Edits.field-0) (Ok (Edits c.in-Ok-Edits.script c.in-Ok-Edits.output))
    c.of.ensures c.as_slice-text.ensures (c.of-2.ensures ∙ c.in_ok-tables.ensures)
    (ap Ok c.in-Ok-Edits.field-0-is) c.in-Ok-Edits.ensures in
    IfOk-weaker c.decide_edits.result _ _ (λ decision decides.
    edits-decide c.args.defs.now c.args.day request c.args.input.now c.args.files.now decision
    c.in-Ok-Edits.script c.in-Ok-Edits.output told
    (subst (λ (tool : Tool). EditsDecide tool c.args.files.now c.in-Ok-Edits.script
    c.in-Ok-Edits.output decision)
    (c.tool.ensures ∙ ap (λ (one : Request). one.tool) c.of.ensures) decides))
    c.decide_edits.ensures

pub returns-in-Ok-Decides : goal.returns-in-Ok-Decides
returns-in-Ok-Decides c =
    let request = request_in c.args.parsed.now in
    alone-decides c.args.defs.now c.args.day request c.args.input.now c.args.files.now
    c.in-Ok-Decides.decision
    (on-files c.args.defs.now c.args.day request c.args.input.now c.args.files.now _ _ _
    (Ok c.in-Ok-Decides.field-0) (Ok (DecidesAlone c.in-Ok-Decides.decision))
    c.of.ensures c.as_slice-text.ensures (c.of-2.ensures ∙ c.in_ok-tables.ensures)
    (ap Ok c.in-Ok-Decides.field-0-is) c.in-Ok-Decides.ensures)

pub returns-in-Ok-Lines : goal.returns-in-Ok-Lines
returns-in-Ok-Lines c =
    let request = request_in c.args.parsed.now in
    let told = on-files c.args.defs.now c.args.day request c.args.input.now c.args.files.now _ _ _
    (Ok c.in-Ok-Lines.field-0) (Ok Lines)
    c.of.ensures c.as_slice-text.ensures (c.of-2.ensures ∙ c.in_ok-tables.ensures)
    (ap Ok c.in-Ok-Lines.field-0-is) c.in-Ok-Lines.ensures in
    IfOk-weaker c.decide_lines.result _ _ (λ decision decides.
    lines-decide c.args.defs.now c.args.day request c.args.input.now c.args.files.now decision told
    (subst (λ (ensuring : Bool). LinesDecideUnder ensuring c.args.defs.now c.args.day
    c.args.input.now c.args.files.now decision)
    (c.has.ensures ∙ ap ensures c.of.ensures) decides)) c.decide_lines.ensures

pub returns-in-Err-Refused : goal.returns-in-Err-Refused
returns-in-Err-Refused c =
    let request = request_in c.args.parsed.now in
    let refusal = c.in-Err-Refused.refusal in
    let told = on-files c.args.defs.now c.args.day request c.args.input.now c.args.files.now _ _ _
    (Err c.in-Err-Refused.field-0) (Err (Refused refusal))
    c.of.ensures c.as_slice-text.ensures (c.of-2.ensures ∙ c.in_ok-tables.ensures)
    (ap Err c.in-Err-Refused.field-0-is) c.in-Err-Refused.ensures in
    IfOk-weaker c.refuse.result _ _ (λ decision is.
    refusal-decides c.args.defs.now c.args.day request c.args.input.now c.args.files.now decision
    refusal told
    (is ∙ ap (λ (tool : Tool). Refuse refusal (refusal_output tool refusal))
    (c.tool-in-Err-Refused.ensures ∙ ap (λ (one : Request). one.tool) c.of.ensures)))
    c.refuse.ensures
