-- Claims: where the script of an action is carried out, the action comes to what its edits make
-- (`outcome-made`), with what its tool prints (`written-made`); where it is refused, so is the action
-- (`fault-carried`). Each table stands where it stood (`made-stands`), and those that no edits touch stay
-- (`both-stay`).
use Rattle.std.proofs.Common.{◌≡◌, ◌∙◌, ◌||◌, Bool, true, false, ap, refl, subst, sym}
use Rattle.std.specs.Prelude.{Option, Some, None, Ok, Err, is_some}
use Rattle.acct_text.specs.declared.Tab.{Tab}
use Rattle.acct_text.specs.declared.files.Files.{Files}
use Rattle.acct_text.specs.Files.{table_of}
use Rattle.account_model.specs.declared.refusal.Refusal.{Refusal}
use Rattle.account_model.specs.declared.tool.Tool.{Tool}
use Rattle.account_model.specs.Action.{Action, made_by, multiple_entries, outcome_of}
use Rattle.account_model.specs.Batch.{written_by}
use Rattle.account_model.specs.Tables as model
use Rattle.account_model.proofs.DeedLaws.{files-stand}
use Rattle.tool_answers.specs.declared.decision.Output.{Output}
use Rattle.tool_answers.specs.declared.tool_fault.ToolFault.{ToolFault}
use Rattle.tool_answers.specs.declared.tool_fault.ToolFault.TheVariants.{Refused, Memory}
use Rattle.carried_tables.specs.Changes.{UneditedStay, StandWhere, is_touched}
use Rattle.carried_tables.specs.Scripts.{CarriesOut, seen_script}
use Rattle.carried_tables.specs.declared.script.Script.{Script}
use Rattle.carried_tables.specs.declared.touched_tables.TouchedTables.{TouchedTables}
use Rattle.suite_tools.specs.Carrying.{IsCarriedOut, IsOfAction, written_with}

-- what a script makes has each table where it stood
pub made-stands :
    (script : model.Script) (old new : Files)
    → new ≡ model.files_after script old
    → StandWhere old new
made-stands script old new made table =
    ap (λ (files : Files). is_some (table_of files table)) made ∙ files-stand script old table

-- of two tests that neither passes, each fails
neither : (one other : Bool) → (one || other) ≡ false → (one ≡ false) × (other ≡ false)
neither true other none = absurd cc
neither false other none = (refl, none)

-- a table that edits don't touch, and others behind them don't, stays behind both
pub both-stay :
    (before behind both : TouchedTables) (first old new : Files)
    → ((table : Tab) → is_touched both table ≡ (is_touched before table || is_touched behind table))
    → UneditedStay before first old
    → UneditedStay behind old new
    → UneditedStay both first new
both-stay before behind both first old new are stays_before stays table none =
    let parts = neither (is_touched before table) (is_touched behind table) (sym (are table) ∙ none) in
    stays table parts.1 ∙ stays_before table parts.0

module _ (tool : Tool) (action : Action) (script : Script) (output : Output) (old : Files)
    (is : IsOfAction tool script output action) where
  -- by whether a record of several is touched
  told :
      (multiple : Option Refusal)
      → multiple_entries (seen_script script) old ≡ multiple
      → multiple_entries action.script old ≡ multiple
  told multiple = subst (λ (one : model.Script). multiple_entries one old ≡ multiple) is.0.edits

  -- the action comes to what its edits make
  pub outcome-made :
      multiple_entries (seen_script script) old ≡ None
      → outcome_of action old ≡ Ok (made_by action old)
  outcome-made none =
      let single = told None none in rw (outcome_of, is.0.unrefused, single) refl

  -- which is written with what is printed
  pub written-made :
      (new : Files)
      → new ≡ model.files_after (seen_script script) old
      → written_by tool (made_by action old) ≡ written_with new output
  written-made new made = λ i. record {
    files = sym (made ∙ ap (λ (one : model.Script). model.files_after one old) is.0.edits) i;
    status = sym is.1.status i;
    output = sym is.1.output i;
    error = sym is.1.notices i;
  }

  -- a fault is the action's
  pub fault-carried :
      (new : Files) (fault : ToolFault)
      → CarriesOut (seen_script script) old new (Err fault)
      → IsCarriedOut tool (outcome_of action old) old new (Err fault)
  fault-carried new (Refused refusal) refused =
      let several = told (Some refusal) refused.0 in
      (rw (outcome_of, is.0.unrefused, several) refl, refused.1)
  fault-carried new Memory refused = tt
