-- chsh LOGIN (chsh(1)): changes a user's shell.
use Rattle.std.specs.Prelude.{List, [], ◌∷◌, codes, Option}
use Rattle.acct_text.specs.declared.files.Files.{Files}
use Rattle.account_model.specs.declared.refusal.Refusal.{Refusal}
use Rattle.account_model.specs.Format.{is_named}
use Rattle.account_model.specs.Edits.{each_where}
use Rattle.account_model.specs.Records.{passwd_format}
use Rattle.account_model.specs.Tables.{Script, no_edits}
use Rattle.account_model.specs.Values.{is_shell, text_value}
use Rattle.account_model.specs.Request.{Request, operand}
use Rattle.account_model.specs.Refusals.{bad_value, missing_user}
use Rattle.account_model.specs.Action.{Action, changes}

-- in the order in which they are tested
abbrev pub chsh_refusals : Request → Files → List (Option Refusal)
chsh_refusals request files =
    bad_value (codes "s") is_shell request ∷ missing_user (operand request) files ∷ []

-- `-s` sets the shell
abbrev pub chsh_script : Request → Script
chsh_script request = record no_edits {
  passwd = each_where (is_named passwd_format (operand request))
      (λ r. record r { shell = text_value (codes "s") request r.shell }) ∷ [];
}

-- what chsh does, by the tables
abbrev pub chsh : Request → Files → Action
chsh request files = changes (chsh_refusals request files) (chsh_script request)
