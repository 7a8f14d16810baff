-- The test that each form of a value is (useradd(8), usermod(8), chfn(1), groupmod(8), chage(1)).
use Rattle.std.specs.Prelude.{ℕ, Bool, not, List, [], ◌∷◌, Option}
use Rattle.account_model.specs.declared.refusal.Refusal.{Refusal}
use Rattle.account_model.specs.Names.{is_valid_name}
use Rattle.account_model.specs.Refusals.{bad_value_of, refuse_if}
use Rattle.account_model.specs.UsermodRanges.{is_range}
use Rattle.account_model.specs.Values.{is_comment_part, is_field, is_folder, is_shell, is_days_value, is_date_value, is_expiration_value}
use Rattle.account_model.specs.Records.{is_id}
use Rattle.command_values.specs.declared.form.Form.{Form}
use Rattle.command_values.specs.declared.form.Form.TheVariants.{Field, Part, Folder, Shell, Id, Name, Days, Date, Expiration, Range}

-- whether a value is of the form
abbrev pub test_of : Form → List ℕ → Bool
test_of Field = is_field
test_of Part = is_comment_part
test_of Folder = is_folder
test_of Shell = is_shell
test_of Id = is_id
test_of Name = is_valid_name
test_of Days = is_days_value
test_of Date = is_date_value
test_of Expiration = is_expiration_value
test_of Range = is_range

-- the refusal of a value of an option that isn't of the form
abbrev pub form_refusal : ℕ → Form → List ℕ → Option Refusal
form_refusal letter form value =
    refuse_if (not (test_of form value)) (bad_value_of (letter ∷ []) value)
