-- pwconv, pwunconv, grpconv and grpunconv (pwconv(8)): the hashes of users move between passwd and shadow, and those of
-- groups between group and gshadow.
use Rattle.std.specs.Prelude.{ℕ, true, not, if◌then◌else◌, List, [], ◌∷◌, map, bytes_eq, Some, None, is_none, option_map, unwrap_or}
use Rattle.acct_text.specs.declared.files.Files.{Files}
use Rattle.account_model.specs.declared.records.PasswdRecord.{PasswdRecord}
use Rattle.account_model.specs.declared.records.ShadowRecord.{ShadowRecord}
use Rattle.account_model.specs.declared.records.GroupRecord.{GroupRecord}
use Rattle.account_model.specs.declared.records.GshadowRecord.{GshadowRecord}
use Rattle.account_model.specs.declared.settings.Key.TheVariants.{PassMinDays, PassMaxDays, PassWarnAge}
use Rattle.account_model.specs.declared.refusal.Refusal.TheVariants.{NoShadow, NoGshadow}
use Rattle.account_model.specs.Format.{Format, find_named, has_named}
use Rattle.account_model.specs.Edits.{Edit, AddMissing, each, drop_where}
use Rattle.account_model.specs.Records.{hash_alone, passwd_format, shadow_format, group_format, gshadow_format}
use Rattle.account_model.specs.Tables.{Script, no_edits, passwd_records, shadow_records, group_records, gshadow_records}
use Rattle.account_model.specs.Settings.{Setting, number}
use Rattle.account_model.specs.Refusals.{refuse_if}
use Rattle.account_model.specs.Action.{Action, changes}
use Rattle.account_model.specs.Hashes.{elsewhere, gshadow_of}

-- ---- A table and that of its hashes

-- a table of accounts and the one that has their hashes under the same names: passwd with shadow, group with gshadow
pub record Accounts (M H : Type 0) : Type 0 where
  pub main : Format M
  pub hashes : Format H
  -- the password field of a record
  pub field : M → List ℕ
  -- the record with this text in its password field
  pub with_field : List ℕ → M → M
  -- the hash of a record
  pub hash : H → List ℕ

-- the users (passwd(5), shadow(5))
abbrev pub users : Accounts PasswdRecord ShadowRecord
users = record {
  main = passwd_format;
  hashes = shadow_format;
  field = λ user. user.password;
  with_field = λ field user. record user { password = field };
  hash = λ r. r.hash;
}

-- the groups (group(5), gshadow(5))
abbrev pub groups : Accounts GroupRecord GshadowRecord
groups = record {
  main = group_format;
  hashes = gshadow_format;
  field = λ group. group.password;
  with_field = λ field group. record group { password = field };
  hash = λ r. r.password;
}

-- the hash that opens an account: that of its record of hashes, where the field is `x` and there is one, and else the
-- field
abbrev pub login_hash : {M H : Type 0} → Accounts M H → List H → M → List ℕ
login_hash accounts hashes m = if bytes_eq (accounts.field m) elsewhere
    then unwrap_or (option_map accounts.hash
    (find_named accounts.hashes (accounts.main.name m) hashes)) (accounts.field m)
    else accounts.field m

-- ---- To the table of hashes

-- What a record of hashes becomes by the main records: where the first of its name has another field than `x`, it takes
-- that over.
abbrev pub taken_over : {M H : Type 0} → Accounts M H → (M → H → H) → List M → H → H
taken_over accounts take mains h =
    elim (find_named accounts.main (accounts.hashes.name h) mains) [
      | None ↦ h
      | Some m ↦ if bytes_eq (accounts.field m) elsewhere then h else take m h
    ]

-- records whose name the main table lacks go, those that are left take fields over, and each name without one gets one
abbrev pub gathered : {M H : Type 0} → Accounts M H → (M → H → H) → (M → H) → List M → List (Edit H)
gathered accounts take made mains =
    drop_where (λ h. not (has_named accounts.main (accounts.hashes.name h) mains))
    ∷ each (taken_over accounts take mains)
    ∷ map (λ m. AddMissing (made m)) mains

-- each field becomes `x`
abbrev pub hidden : {M H : Type 0} → Accounts M H → List (Edit M)
hidden accounts = each (accounts.with_field elsewhere) ∷ []

-- the user's record of shadow takes the field over, and the password was changed on the day
abbrev pub take_password : ℕ → PasswdRecord → ShadowRecord → ShadowRecord
take_password day user r = record r { hash = user.password; last_change = Some day }

-- the user's new record of shadow, with aging by the settings (login.defs(5))
abbrev pub shadow_of : List Setting → ℕ → PasswdRecord → ShadowRecord
shadow_of settings day user = record (hash_alone user.name user.password) {
  last_change = Some day;
  minimum = number PassMinDays settings;
  maximum = number PassMaxDays settings;
  warning = number PassWarnAge settings;
}

-- the group's record of gshadow takes the field over
abbrev pub take_group_password : GroupRecord → GshadowRecord → GshadowRecord
take_group_password group r = record r { password = group.password }

-- the edits of pwconv
abbrev pub pwconv_script : Files → List Setting → ℕ → Script
pwconv_script files settings day = record no_edits {
  passwd = hidden users;
  shadow = gathered users (take_password day) (shadow_of settings day) (passwd_records files);
}

-- what pwconv does
abbrev pub pwconv : Files → List Setting → ℕ → Action
pwconv files settings day =
    changes (refuse_if (is_none files.shadow) NoShadow ∷ []) (pwconv_script files settings day)

-- the edits of grpconv
abbrev pub grpconv_script : Files → Script
grpconv_script files = record no_edits {
  group = hidden groups;
  gshadow = gathered groups take_group_password gshadow_of (group_records files);
}

-- what grpconv does
abbrev pub grpconv : Files → Action
grpconv files =
    changes (refuse_if (is_none files.gshadow) NoGshadow ∷ []) (grpconv_script files)

-- ---- Back to the main table

-- the record with its hash as field, where it has one
abbrev pub with_shown : {M H : Type 0} → Accounts M H → List H → M → M
with_shown accounts hashes m = elim (find_named accounts.hashes (accounts.main.name m) hashes) [
  | None ↦ m
  | Some h ↦ accounts.with_field (accounts.hash h) m
]

-- each main record gets its hash as field
abbrev pub shown : {M H : Type 0} → Accounts M H → List H → List (Edit M)
shown accounts hashes = each (with_shown accounts hashes) ∷ []

-- all records go
abbrev pub emptied : {H : Type 0} → List (Edit H)
emptied = drop_where (λ h. true) ∷ []

-- the edits of pwunconv; the aging is lost
abbrev pub pwunconv_script : Files → Script
pwunconv_script files =
    record no_edits { passwd = shown users (shadow_records files); shadow = emptied }

-- what pwunconv does
abbrev pub pwunconv : Files → Action
pwunconv files = changes (refuse_if (is_none files.shadow) NoShadow ∷ []) (pwunconv_script files)

-- the edits of grpunconv; the administrators are lost
abbrev pub grpunconv_script : Files → Script
grpunconv_script files =
    record no_edits { group = shown groups (gshadow_records files); gshadow = emptied }

-- what grpunconv does
abbrev pub grpunconv : Files → Action
grpunconv files =
    changes (refuse_if (is_none files.gshadow) NoGshadow ∷ []) (grpunconv_script files)
