-- Claim: groupadd answers the first refusal of its words (`refused-by_words`), then that of what is
-- taken (`refused-by_conflict`), and else the lines of the group (`made-group`). Way: by whether
-- `-f` leaves a group that exists, where the refusals end with those of the words.
use Rattle.std.proofs.Common.{◌≡◌, ℕ, Bool, true, false, List, ◌++◌, refl, sym, ◌∙◌}
use Rattle.std.specs.Prelude.{Some, None, Err, if◌then◌else◌}
use Rattle.acct_text.specs.declared.files.Files.{Files}
use Rattle.account_model.specs.Action.{Action, changes}
use Rattle.account_model.specs.Groupadd.{groupadd_checks, groupadd_conflicts, groupadd_script, new_gid}
use Rattle.account_model.specs.NewAccount.{add_group, new_hash}
use Rattle.account_model.specs.Request.{Request}
use Rattle.account_model.specs.Settings.{Setting}
use Rattle.account_model.specs.Tables.{no_edits}
use Rattle.account_model.specs.Text.{first_some}
use Rattle.tool_answers.specs.declared.tool_fault.ToolFault.{ToolFault}
use Rattle.tool_answers.specs.declared.tool_fault.ToolFault.TheVariants.{Refused, Memory}
use Rattle.tool_answers.specs.Refusing.{IsFaultOf}
use Rattle.carried_tables.specs.declared.script.Script.{Script}
use Rattle.carried_tables.specs.Scripts.{seen_script}
use Rattle.table_edits.specs.Acting.{ActsBy, IsScriptOf}
use Rattle.table_edits.specs.Stopping.{StopsBy}
use Rattle.table_edits.proofs.ActingLemmas.{first_some-before, first_some-behind}

module _ (name : List ℕ) (request : Request) (files : Files) (settings : List Setting) where
  -- what groupadd does, by whether the group exists and `-f` is given
  abbrev pub action_where : Bool → Action
  action_where content = if content
      then changes (groupadd_checks name request) no_edits
      else changes (groupadd_checks name request ++ groupadd_conflicts name request files settings)
      (groupadd_script name request files settings)

  -- a refusal of the words is the first
  pub refused-by_words :
      (content : Bool) (fault : ToolFault)
      → IsFaultOf (first_some (groupadd_checks name request)) fault
      → ActsBy (action_where content) (Err fault)
  refused-by_words true (Refused refusal) is = is
  refused-by_words false (Refused refusal) is =
      first_some-before (groupadd_checks name request)
      (groupadd_conflicts name request files settings) refusal is
  refused-by_words content Memory is = tt

  -- where the words are good, a refusal of what is taken is the first
  pub refused-by_conflict :
      (content : Bool) (fault : ToolFault)
      → content ≡ false
      → first_some (groupadd_checks name request) ≡ None
      → StopsBy {X = ℕ} (first_some (groupadd_conflicts name request files settings)) (Err fault)
      → ActsBy (action_where content) (Err fault)
  refused-by_conflict true fault other good is = absurd cc
  refused-by_conflict false (Refused refusal) other good is =
      first_some-behind (groupadd_checks name request)
      (groupadd_conflicts name request files settings) good ∙ is
  refused-by_conflict false Memory other good is = tt

  -- the edits where there is a GID
  script-of_gid :
      (gid : ℕ)
      → new_gid request files settings ≡ Some gid
      → groupadd_script name request files settings ≡ add_group name (new_hash request) gid files
  script-of_gid gid is = rw (is, groupadd_script) refl

  -- where nothing refuses, the script has the lines of the group
  pub made-group :
      (content : Bool) (gid : ℕ) (script : Script)
      → content ≡ false
      → first_some (groupadd_checks name request) ≡ None
      → first_some (groupadd_conflicts name request files settings) ≡ None
      → new_gid request files settings ≡ Some gid
      → seen_script script ≡ add_group name (new_hash request) gid files
      → IsScriptOf (action_where content) script
  made-group true gid script other good free is_gid seen = absurd cc
  made-group false gid script other good free is_gid seen = record {
    unrefused = first_some-behind (groupadd_checks name request)
        (groupadd_conflicts name request files settings) good ∙ free;
    edits = seen ∙ sym (script-of_gid gid is_gid);
  }
