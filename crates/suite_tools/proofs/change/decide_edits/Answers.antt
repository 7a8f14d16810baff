-- Once the script is carried out, the tables stand where the files do, those that aren't told are as they
-- were, and those that differ are what the tool decides.
use Rattle.std.proofs.Common.{◌∙◌, ap, subst, sym}
use Rattle.std.proofs.lemmas.Result.{IfOk-weaker}
use Rattle.std.specs.Prelude.{Err}
use Rattle.acct_text.specs.declared.files.Files.{Files}
use Rattle.tool_answers.specs.Decisions.{decision_of, written_decision}
use Rattle.tool_answers.specs.declared.tool_fault.ToolFault.{ToolFault}
use Rattle.tool_answers.specs.declared.tool_fault.ToolFault.TheVariants.{Refused}
use Rattle.carried_tables.specs.Changes.{UneditedStay}
use Rattle.carried_tables.specs.Scripts.{AreMade, CarriesOut, seen_script}
use Rattle.suite_tools.proofs.CarryLemmas.{fault-carried, made-stands, outcome-made, written-made}
use Rattle.suite_tools.proofs.change.decide_edits.Goals as goal

pub decide_change-requires-clause-stand : goal.decide_change-requires-clause-stand
decide_change-requires-clause-stand c =
    let script = seen_script c.args.script.now in
    let new = c.carry_out.new.self in
    made-stands script c.args.files.now new (subst (λ (files : Files).
    AreMade script c.in-Ok.touched files new) c.requires.are c.in-Ok.ensures).made

pub decide_change-requires-clause-left : goal.decide_change-requires-clause-left
decide_change-requires-clause-left c =
    subst (λ (files : Files). UneditedStay c.in-Ok.touched files c.carry_out.new.self)
    c.requires.are
    c.in-Ok.ensures.left

pub returns-in-Ok : goal.returns-in-Ok
returns-in-Ok c = IfOk-weaker c.decide_change.result _ _ (λ decision is action of_action.
    let files = c.args.files.now in
    let script = c.args.script.now in
    let new = c.carry_out.new.self in
    let made = subst (λ (files : Files). AreMade (seen_script script) c.in-Ok.touched files new)
    c.requires.are c.in-Ok.ensures in
    is
    ∙ ap (written_decision files) (sym (written-made c.args.tool action script c.args.output files
    of_action new made.made))
    ∙ ap (decision_of c.args.tool files) (sym (outcome-made c.args.tool action script c.args.output
    files of_action made.single)))
    c.decide_change.ensures

pub returns-in-Err-Refused : goal.returns-in-Err-Refused
returns-in-Err-Refused c = IfOk-weaker c.refuse.result _ _ (λ decision is action of_action.
    let files = c.args.files.now in
    let script = c.args.script.now in
    let new = c.carry_out.new.self in
    let refused = subst (λ (files : Files). CarriesOut (seen_script script) files new
    (Err c.in-Err-Refused.field-0)) c.requires.are c.in-Err-Refused.ensures in
    is ∙ ap (decision_of c.args.tool files) (sym (fault-carried c.args.tool action script
    c.args.output files of_action new (Refused c.in-Err-Refused.refusal)
    (subst (λ (fault : ToolFault). CarriesOut (seen_script script) files new (Err fault))
    c.in-Err-Refused.field-0-is refused)).0)) c.refuse.ensures
