-- Which GID groupadd gives a new group (groupadd(8), `-g`, `-f` and `-o`).
use Rattle.std.specs.Prelude.{◌≡◌, ℕ, List, Some, Result, IfOk}
use Rattle.acct_text.specs.declared.files.Files.{Files}
use Rattle.account_model.specs.Groupadd.{groupadd_conflicts, new_gid}
use Rattle.account_model.specs.NewAccount.{settings_for}
use Rattle.account_model.specs.Request.{Request, operand}
use Rattle.account_model.specs.Settings.{Setting}
use Rattle.account_model.specs.Text.{first_some}
use Rattle.tool_answers.specs.declared.tool_fault.ToolFault.{ToolFault}
use Rattle.login_defs.specs.declared.defs.Defs.{Defs}
use Rattle.login_defs.specs.Held.{HasSettings}
use Rattle.table_edits.specs.Stopping.{StopsBy}

-- a GID for the new group, where its name and its GID are free, by these settings
abbrev pub IsGidFor : Request → Files → List Setting → Result ℕ ToolFault → Type 0
IsGidFor request files settings result =
    StopsBy (first_some (groupadd_conflicts (operand request) request files settings)) result
    × IfOk result (λ gid. new_gid request files settings ≡ Some gid)

-- the same by any settings that with the `-K` words are those of defs
abbrev pub GivesGid : Request → Files → Defs → Result ℕ ToolFault → Type 0
GivesGid request files defs result = (settings : List Setting)
    → HasSettings defs (settings_for request settings)
    → IsGidFor request files settings result
