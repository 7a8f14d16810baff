-- The fields of passwd and shadow that usermod sets (usermod(8), `-c`, `-d`, `-e`, `-f`, `-g`, `-l`,
-- `-p`, `-s` and `-u`).
use Rattle.std.specs.Prelude.{◌≡◌, ℕ, Some, option_map, codes, if◌then◌else◌}
use Rattle.account_model.specs.declared.records.ShadowRecord.{ShadowRecord}
use Rattle.acct_text.specs.declared.files.Files.{Files}
use Rattle.account_model.specs.GivenGroups.{given_group}
use Rattle.account_model.specs.Request.{Request, has_option, value_of}
use Rattle.account_model.specs.Usermod.{changed_shadow, new_name}
use Rattle.account_model.specs.Values.{given_uid}
use Rattle.line_edits.specs.ShadowChanges.{with_shadow_fields}
use Rattle.line_edits.specs.declared.passwd_changes.UserFields.{UserFields}
use Rattle.line_edits.specs.declared.shadow_changes.DaysChange.{DaysChange}
use Rattle.line_edits.specs.declared.shadow_changes.DaysChange.TheVariants.{Becomes, Stays}
use Rattle.line_edits.specs.declared.shadow_changes.ShadowFields.{ShadowFields}

-- the fields of passwd that the options give; the name is always set
abbrev pub user_fields : Request → Files → UserFields
user_fields request files = record {
  name = Some (new_name request);
  uid = given_uid request;
  gid = option_map (λ group. group.gid) (given_group request files);
  comment = value_of (codes "c") request;
  home = value_of (codes "d") request;
  shell = value_of (codes "s") request;
}

-- what becomes of the day of the last change: a new password sets it
abbrev pub day_of_change : Request → ℕ → DaysChange
day_of_change request day = if has_option (codes "p") request then Becomes day else Stays

-- the fields make of each record of shadow what the options do
abbrev pub SetsShadow : Request → ℕ → ShadowFields → Type 0
SetsShadow request day fields =
    (r : ShadowRecord) → with_shadow_fields fields r ≡ changed_shadow request day r
