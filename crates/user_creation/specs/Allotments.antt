-- The table of subordinate IDs that a new user gets a range of, by its file and the bounds of the settings (useradd(8);
-- subuid(5), subgid(5); SUB_UID_MIN, SUB_UID_MAX and SUB_UID_COUNT of login.defs(5), and the same of GIDs).
use Rattle.std.specs.Prelude.{ℕ, Bool, ◌&&◌, not, is_some, List, Option}
use Rattle.std.specs.List.{list_any}
use Rattle.account_model.specs.declared.settings.Key.TheVariants.{SubUidMin, SubGidMin, SubUidMax, SubGidMax, SubUidCount, SubGidCount}
use Rattle.account_model.specs.NewRanges.{Subordinate, id_number, may_have_ranges}
use Rattle.account_model.specs.Records.{subid_format}
use Rattle.account_model.specs.Request.{Request, operand}
use Rattle.account_model.specs.Settings.{Setting}
use Rattle.account_model.specs.SubidOwner.{is_owned}
use Rattle.account_model.specs.Tables.{table_records}
use Rattle.user_creation.specs.declared.ranges.Bounds.{Bounds}

-- a table with this file, with the bounds and the count of a new range
abbrev pub subordinate_of : Option (List ℕ) → Bounds → Subordinate
subordinate_of file bounds = record {
  bytes = file;
  records = table_records subid_format file;
  minimum = bounds.minimum;
  maximum = bounds.maximum;
  count = bounds.count;
}

-- whether there is a file in which the user may have ranges, and has none yet
abbrev pub is_open : Request → Option ℕ → Option (List ℕ) → Bool
is_open request uid file = is_some file
    && not (list_any (is_owned (operand request) uid) (table_records subid_format file))
    && may_have_ranges request

-- the bounds of subordinate UIDs under the settings
abbrev pub uid_bounds_under : List Setting → Bounds
uid_bounds_under settings = record {
  minimum = id_number SubUidMin settings;
  maximum = id_number SubUidMax settings;
  count = id_number SubUidCount settings;
}

-- the bounds of subordinate GIDs under the settings
abbrev pub gid_bounds_under : List Setting → Bounds
gid_bounds_under settings = record {
  minimum = id_number SubGidMin settings;
  maximum = id_number SubGidMax settings;
  count = id_number SubGidCount settings;
}
