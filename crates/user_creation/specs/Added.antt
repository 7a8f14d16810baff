-- The user that a script adds (useradd(8)).
use Rattle.std.specs.Prelude.{ℕ, List, ◌∷◌, Option, Some, None}
use Rattle.account_model.specs.declared.records.PasswdRecord.{PasswdRecord}
use Rattle.account_model.specs.Edits.{Edit}
use Rattle.account_model.specs.Edits.Edit.{Add}
use Rattle.account_model.specs.Tables.{Script}

-- the UID of a record that the first edit adds
abbrev pub first_added : List (Edit PasswdRecord) → Option ℕ
first_added (Add user ∷ edits) = Some user.uid
first_added edits = None

-- the UID of the user that the script adds
abbrev pub added_uid : Script → Option ℕ
added_uid script = first_added script.passwd
