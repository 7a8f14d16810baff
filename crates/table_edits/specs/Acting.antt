-- What a tool answers, and what it prints ("EXIT VALUES" of each page).
use Rattle.std.specs.Prelude.{◌≡◌, ⊤, Some, None, Result, Ok, Err}
use Rattle.account_model.specs.Action.{Action}
use Rattle.account_model.specs.Messages.{messages}
use Rattle.account_model.specs.Text.{first_some}
use Rattle.account_model.specs.declared.tool.Tool.{Tool}
use Rattle.tool_answers.specs.declared.decision.Output.{Output}
use Rattle.tool_answers.specs.declared.tool_fault.ToolFault.{ToolFault}
use Rattle.tool_answers.specs.declared.tool_fault.ToolFault.TheVariants.{Refused, Memory}
use Rattle.carried_tables.specs.declared.script.Script.{Script}
use Rattle.carried_tables.specs.Scripts.{seen_script}

-- none of the action's refusals is there, and the script has its edits
pub record IsScriptOf (action : Action) (script : Script) : Type 0 where
  pub unrefused : first_some action.refusals ≡ None
  pub edits : seen_script script ≡ action.script

-- the tool answers the script of the action, or its first refusal; want of memory may come anywhere
abbrev pub ActsBy : Action → Result Script ToolFault → Type 0
ActsBy action (Ok script) = IsScriptOf action script
ActsBy action (Err (Refused refusal)) = first_some action.refusals ≡ Some refusal
ActsBy action (Err Memory) = ⊤

-- the output has what the action of the tool prints, with its status
pub record IsOutputOf (tool : Tool) (action : Action) (printed : Output) : Type 0 where
  pub status : printed.status ≡ action.status
  pub output : printed.out ≡ action.output
  pub notices : printed.err ≡ messages tool action.notices
