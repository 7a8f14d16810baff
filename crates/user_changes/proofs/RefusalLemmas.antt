-- Claim: usermod answers by the first bad value (`refused-by_value`), else by what is missing or
-- taken (`refused-by_conflict`), and else by its edits (`changed`). Way: its refusals are these two
-- lists. And the new name can stand in a first field (`new-name-good`, `new-name-field`): that of
-- `-l` is valid, and that of a user stands in a line. A name without a comma is listed (`listed`).
use Rattle.std.proofs.Common.{◌≡◌, ◌∙◌, ℕ, false, refl, inl, inr}
use Rattle.std.specs.Prelude.{None, Err, codes}
use Rattle.std.proofs.lemmas.Bool.{cases_Bool}
use Rattle.acct_text.specs.Bytes.{is_empty}
use Rattle.acct_text.specs.declared.files.Files.{Files}
use Rattle.account_model.specs.Names.{is_valid_name}
use Rattle.account_model.specs.Refusals.{bad_value, missing_user}
use Rattle.account_model.specs.Request.{Request, operand}
use Rattle.account_model.specs.Text.{comma, first_some, has_byte}
use Rattle.account_model.specs.GivenGroups.{given_groups}
use Rattle.account_model.specs.Usermod.{new_name, unlistable_name, usermod, usermod_checks, usermod_conflicts, usermod_script}
use Rattle.account_model.specs.Values.{is_field, is_folder, is_shell, is_days_value, is_expiration_value}
use Rattle.account_model.specs.Written.{IsNameField}
use Rattle.account_model.proofs.DeedLaws.{first-none}
use Rattle.account_model.proofs.FieldFacts.{valid-name}
use Rattle.account_model.proofs.RefusalFacts.{text-kept, user-named}
use Rattle.tool_answers.specs.Refusing.{IsFaultOf}
use Rattle.tool_answers.specs.declared.tool_fault.ToolFault.{ToolFault}
use Rattle.tool_answers.specs.declared.tool_fault.ToolFault.TheVariants.{Refused, Memory}
use Rattle.table_edits.specs.Acting.{ActsBy, IsScriptOf}
use Rattle.carried_tables.specs.Scripts.{seen_script}
use Rattle.table_edits.specs.Stopping.{StopsBy}
use Rattle.carried_tables.specs.declared.script.Script.{Script}
use Rattle.table_edits.proofs.ActingLemmas.{first_some-before, first_some-behind}

-- the name of `-l` is valid
pub new-name-good :
    (request : Request)
    → first_some (usermod_checks request) ≡ None
    → bad_value (codes "l") is_valid_name request ≡ None
new-name-good request none =
    let after_comment = first-none (bad_value (codes "c") is_field request) _ none in
    let after_home = first-none (bad_value (codes "d") is_folder request) _ after_comment.1 in
    let after_expiration =
    first-none (bad_value (codes "e") is_expiration_value request) _ after_home.1 in
    let after_inactive =
    first-none (bad_value (codes "f") is_days_value request) _ after_expiration.1 in
    let after_shell = first-none (bad_value (codes "s") is_shell request) _ after_inactive.1 in
    let after_hash = first-none (bad_value (codes "p") is_field request) _ after_shell.1 in
    (first-none (bad_value (codes "l") is_valid_name request) _ after_hash.1).0

-- the new name can stand in a first field
pub new-name-field :
    (request : Request) (files : Files)
    → bad_value (codes "l") is_valid_name request ≡ None
    → missing_user (operand request) files ≡ None
    → IsNameField (new_name request)
new-name-field request files good there =
    text-kept IsNameField (codes "l") is_valid_name request (operand request) valid-name good
    (user-named (operand request) files there)

-- a name without a comma can stand in the lists of `-G`, whichever groups it names
pub listed :
    (request : Request) (files : Files)
    → has_byte comma (operand request) ≡ false
    → unlistable_name request files ≡ None
listed request files plain = elim (cases_Bool (is_empty (given_groups request files))) [
  | inl none ↦ rw none refl
  | inr some ↦ rw (some, plain) refl
]

module _ (request : Request) (files : Files) (day : ℕ) where
  -- a bad value refuses before all else
  pub refused-by_value :
      (fault : ToolFault)
      → IsFaultOf (first_some (usermod_checks request)) fault
      → ActsBy (usermod request files day) (Err fault)
  refused-by_value (Refused refusal) is =
      first_some-before (usermod_checks request) (usermod_conflicts request files) refusal is
  refused-by_value Memory is = tt

  -- where the values are good, what is missing or taken refuses
  pub refused-by_conflict :
      (fault : ToolFault)
      → first_some (usermod_checks request) ≡ None
      → StopsBy {X = ℕ} (first_some (usermod_conflicts request files)) (Err fault)
      → ActsBy (usermod request files day) (Err fault)
  refused-by_conflict (Refused refusal) good is =
      first_some-behind (usermod_checks request) (usermod_conflicts request files) good ∙ is
  refused-by_conflict Memory good is = tt

  -- where nothing refuses, the script has the edits
  pub changed :
      (script : Script)
      → first_some (usermod_checks request) ≡ None
      → first_some (usermod_conflicts request files) ≡ None
      → seen_script script ≡ usermod_script request files day
      → IsScriptOf (usermod request files day) script
  changed script good free seen = record {
    unrefused =
        first_some-behind (usermod_checks request) (usermod_conflicts request files) good ∙ free;
    edits = seen;
  }
