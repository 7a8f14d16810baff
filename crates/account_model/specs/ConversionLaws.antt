-- What conversion keeps (pwconv(8)): the hash that opens each account.
use Rattle.std.specs.Prelude.{◌≡◌, ◌≢◌, ℕ, ◌≤◌, true, List, AllPairs, map, Ok}
use Rattle.std.specs.List.{AllByRecursion}
use Rattle.acct_text.specs.declared.files.Files.{Files}
use Rattle.account_model.specs.declared.records.PasswdRecord.{PasswdRecord}
use Rattle.account_model.specs.declared.records.ShadowRecord.{ShadowRecord}
use Rattle.account_model.specs.declared.records.GroupRecord.{GroupRecord}
use Rattle.account_model.specs.declared.records.GshadowRecord.{GshadowRecord}
use Rattle.account_model.specs.Format.{Format, has_named}
use Rattle.account_model.specs.Records.{passwd_format, group_format, greatest_days}
use Rattle.account_model.specs.Settings.{Setting}
use Rattle.account_model.specs.Tables.{passwd_records, shadow_records, group_records, gshadow_records}
use Rattle.account_model.specs.Action.{Made, outcome_of}
use Rattle.account_model.specs.Hashes.{elsewhere}
use Rattle.account_model.specs.Conversion.{Accounts, users, groups, login_hash, pwconv, pwunconv, grpconv, grpunconv}

-- each two records have different names
abbrev pub NamesAreDistinct : {R : Type 0} → Format R → List R → Type 0
NamesAreDistinct format records = AllPairs (λ r other. format.name r ≢ format.name other) records

-- the records of a table and those of its hashes
pub record Both (M H : Type 0) : Type 0 where
  pub mains : List M
  pub hashes : List H

-- each record that has one of hashes has the field `x`
abbrev pub AreHidden : {M H : Type 0} → Accounts M H → Both M H → Type 0
AreHidden accounts both = AllByRecursion (λ m.
    has_named accounts.hashes (accounts.main.name m) both.hashes ≡ true
    → accounts.field m ≡ elsewhere) both.mains

-- the same accounts in the same order, and each is opened by the same hash
pub record KeepsHashes {M H : Type 0} (accounts : Accounts M H) (old new : Both M H) : Type 0 where
  pub names : map accounts.main.name new.mains ≡ map accounts.main.name old.mains
  pub hashes : map (login_hash accounts new.hashes) new.mains
      ≡ map (login_hash accounts old.hashes) old.mains

-- each field is `x`, and the table of hashes has the names of the other one
pub record IsGathered {M H : Type 0} (accounts : Accounts M H) (both : Both M H) : Type 0 where
  pub hidden : AllByRecursion (λ m. accounts.field m ≡ elsewhere) both.mains
  pub names : (name : List ℕ) → has_named accounts.hashes name both.hashes
      ≡ has_named accounts.main name both.mains

-- the users of files
abbrev pub users_of : Files → Both PasswdRecord ShadowRecord
users_of files = record { mains = passwd_records files; hashes = shadow_records files }

-- the groups of files
abbrev pub groups_of : Files → Both GroupRecord GshadowRecord
groups_of files = record { mains = group_records files; hashes = gshadow_records files }

-- pwconv and pwunconv keep the hash that opens each user
pub record ConversionKeepsUsers : Type 0 where
  pub gathers : (files : Files) (settings : List Setting) (day : ℕ) (made : Made)
      → day ≤ greatest_days → NamesAreDistinct passwd_format (passwd_records files)
      → outcome_of (pwconv files settings day) files ≡ Ok made
      → KeepsHashes users (users_of files) (users_of made.files)
      × IsGathered users (users_of made.files)
  pub shows : (files : Files) (made : Made) → AreHidden users (users_of files)
      → outcome_of (pwunconv files) files ≡ Ok made
      → KeepsHashes users (users_of files) (users_of made.files)

-- grpconv and grpunconv keep the hash that opens each group
pub record ConversionKeepsGroups : Type 0 where
  pub gathers : (files : Files) (made : Made)
      → NamesAreDistinct group_format (group_records files)
      → outcome_of (grpconv files) files ≡ Ok made
      → KeepsHashes groups (groups_of files) (groups_of made.files)
      × IsGathered groups (groups_of made.files)
  pub shows : (files : Files) (made : Made) → AreHidden groups (groups_of files)
      → outcome_of (grpunconv files) files ≡ Ok made
      → KeepsHashes groups (groups_of files) (groups_of made.files)
