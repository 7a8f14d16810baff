-- The subordinate IDs that a user loses and gets, as account_model has them (usermod(8), `-v`, `-V`,
-- `-w` and `-W`).
use Rattle.std.specs.Prelude.{ℕ, List, map, codes, Option, Some, option_map}
use Rattle.acct_text.specs.declared.files.Files.{Files}
use Rattle.acct_text.specs.declared.Tab.{Tab}
use Rattle.acct_text.specs.declared.Tab.TheVariants.{Subuid, Subgid}
use Rattle.acct_text.specs.Files.{table_of}
use Rattle.acct_text.specs.Lines.{Line}
use Rattle.account_model.specs.declared.refusal.Refusal.{Refusal}
use Rattle.account_model.specs.Edits.{edited_by}
use Rattle.account_model.specs.Records.{read_id, subid_format}
use Rattle.account_model.specs.declared.settings.IdSort.{IdSort}
use Rattle.account_model.specs.declared.settings.IdSort.TheVariants.{Uid, Gid}
use Rattle.account_model.specs.Request.{Request, operand}
use Rattle.account_model.specs.Values.{field_value}
use Rattle.account_model.specs.Usermod.{new_name, range_owner}
use Rattle.account_model.specs.UsermodRanges.{RangeOwner, RangeChange, change_asked, change_in, edits_before_adding, first_meeting}
use Rattle.command_values.specs.Ranges.{ids_named}
use Rattle.user_changes.specs.declared.ranges.UserRanges.{UserRanges}

-- the table of the ranges of such IDs
abbrev pub range_table : IdSort → Tab
range_table Uid = Subuid
range_table Gid = Subgid

-- what the options name of such IDs
abbrev pub ranges_asked : IdSort → Request → RangeChange
ranges_asked Uid request = change_asked (codes "V") (codes "v") request
ranges_asked Gid request = change_asked (codes "W") (codes "w") request

-- what they remove and add of such IDs
abbrev pub range_change : IdSort → Request → Files → RangeChange
range_change sort request files = change_in (table_of files (range_table sort))
    (range_owner request files) (ranges_asked sort request)

-- whose the ranges are to be, by the user's UID so far
abbrev pub owner_by : Request → Option ℕ → RangeOwner
owner_by request old_uid = record {
  old_name = operand request;
  new_name = new_name request;
  uid = field_value (λ value. option_map Some (read_id value)) (codes "u") request old_uid;
}

-- whose the ranges are
abbrev pub owner_in : UserRanges → RangeOwner
owner_in ranges = record {
  old_name = ranges.old_name;
  new_name = ranges.new_name;
  uid = ranges.uid;
}

-- which IDs go and come
abbrev pub id_change : UserRanges → RangeChange
id_change ranges = record {
  removed = map ids_named ranges.removed.items;
  added = map ids_named ranges.added.items;
}

-- the refusal of the first added range that meets a line, as the lines of the table stand after the
-- renaming, all removals and the ranges added before
abbrev pub first_meeting_in : Tab → RangeOwner → RangeChange → List Line → Option Refusal
first_meeting_in table owner change lines = first_meeting table owner change.added
    (edited_by subid_format (edits_before_adding owner change) lines)
