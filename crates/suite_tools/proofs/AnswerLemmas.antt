-- Claims: the script and the output that a tool answers on tables are of its action on these
-- (`of-action`), and a fault of what is carried out is told as it came (`fault-told`).
use Rattle.std.proofs.Common.{◌≡◌, ℕ, List, [], subst, sym}
use Rattle.std.specs.Prelude.{Result, Ok, Err, IsErr}
use Rattle.std.specs.Result.{IsErrAnd}
use Rattle.acct_text.specs.declared.files.Files.{Files}
use Rattle.account_model.specs.declared.refusal.Refusal.{Refusal}
use Rattle.account_model.specs.declared.tool.Tool.{Tool}
use Rattle.account_model.specs.Action.{Made}
use Rattle.account_model.specs.Change.{action_of}
use Rattle.account_model.specs.Request.{Request}
use Rattle.account_model.specs.Settings.{Setting}
use Rattle.tool_answers.specs.declared.decision.Output.{Output}
use Rattle.tool_answers.specs.declared.tool_fault.ToolFault.{ToolFault}
use Rattle.login_defs.specs.declared.defs.Defs.{Defs}
use Rattle.login_defs.specs.Held.{HasSettings}
use Rattle.carried_tables.specs.declared.script.Script.{Script}
use Rattle.suite_tools.specs.Carrying.{AnswersUnder, IsCarriedOut, IsOfAction}
use Rattle.suite_tools.specs.declared.carry.Carried.{Carried}
use Rattle.suite_tools.specs.declared.answer.Answered.{Answered}
use Rattle.suite_tools.specs.declared.answer.Answered.TheVariants.{Edits}

-- the script and the output that are answered on these tables are of the action on them
pub of-action :
    (defs : Defs) (day : ℕ) (request : Request) (files tables seen : Files) (answered : Answered)
    (script : Script) (output : Output) (settings : List Setting)
    → HasSettings defs settings
    → seen ≡ tables
    → answered ≡ Edits script output
    → AnswersUnder defs day request [] files seen (Ok answered)
    → IsOfAction request.tool script output (action_of request [] day tables settings)
of-action defs day request files tables seen answered script output settings holds are is answers =
    let edits = subst (λ (one : Answered). AnswersUnder defs day request [] files seen (Ok one)) is
    answers in
    subst (λ (one : Files). IsOfAction request.tool script output
    (action_of request [] day one settings)) are (edits.1 settings holds)

-- a fault is told as it came
pub fault-told :
    (tool : Tool) (outcome : Result Made Refusal) (old new : Files) (fault : ToolFault)
    (result : Result Carried ToolFault)
    → IsErr result
    → IsErrAnd result (λ found. found ≡ fault)
    → IsCarriedOut tool outcome old new (Err fault)
    → IsCarriedOut tool outcome old new result
fault-told tool outcome old new fault (Ok carried) is_err same told = absurd (cc is_err)
fault-told tool outcome old new fault (Err found) is_err same told =
    subst (λ (one : ToolFault). IsCarriedOut tool outcome old new (Err one)) (sym same) told
