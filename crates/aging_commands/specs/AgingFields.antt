-- Which fields of shadow the options of chage and passwd set, and which record counts for a state (chage(1), passwd(1)).
use Rattle.std.specs.Prelude.{◌≡◌, ℕ, List, unwrap_or}
use Rattle.acct_text.specs.declared.files.Files.{Files}
use Rattle.account_model.specs.declared.records.ShadowRecord.{ShadowRecord}
use Rattle.account_model.specs.Chage.{with_aging}
use Rattle.account_model.specs.Records.{hash_alone}
use Rattle.account_model.specs.Request.{Request}
use Rattle.account_model.specs.Users.{find_shadow, passwd_field}
use Rattle.account_model.specs.Passwd.{with_password_aging}
use Rattle.line_edits.specs.ShadowChanges.{with_shadow_fields}
use Rattle.line_edits.specs.declared.shadow_changes.ShadowFields.{ShadowFields}

-- the fields make of each record what the options do
abbrev pub SetsAging : Request → ShadowFields → Type 0
SetsAging request fields =
    (r : ShadowRecord) → with_shadow_fields fields r ≡ with_aging request r

-- so with the options of passwd
abbrev pub SetsPasswordAging : Request → ShadowFields → Type 0
SetsPasswordAging request fields =
    (r : ShadowRecord) → with_shadow_fields fields r ≡ with_password_aging request r

-- the user's record of shadow, and without one the password field of passwd with no aging
abbrev pub counting_record : List ℕ → Files → ShadowRecord
counting_record user files =
    unwrap_or (find_shadow user files) (hash_alone user (passwd_field user files))
