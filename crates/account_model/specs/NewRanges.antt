-- The subordinate IDs that a new user gets (useradd(8), subuid(5), subgid(5); SUB_UID_MIN, SUB_UID_MAX and SUB_UID_COUNT
-- of login.defs(5), and the same of GIDs).
use Rattle.std.specs.Prelude.{ℕ, Bool, not, ◌&&◌, ◌||◌, ◌==◌, List, [], ◌∷◌, codes, Option, Some, None, is_some, unwrap_or, if◌then◌else◌}
use Rattle.std.specs.List.{list_any}
use Rattle.acct_text.specs.declared.files.Files.{Files}
use Rattle.acct_text.specs.declared.Tab.{Tab}
use Rattle.account_model.specs.declared.records.SubidRecord.{SubidRecord}
use Rattle.account_model.specs.declared.new_user.Allotment.{Allotment}
use Rattle.account_model.specs.declared.new_user.Allotment.TheVariants.{Unwanted, Full, Range}
use Rattle.account_model.specs.declared.settings.Key.{Key}
use Rattle.account_model.specs.declared.settings.Key.TheVariants.{SubUidMin, SubGidMin, SubUidMax, SubGidMax, SubUidCount, SubGidCount}
use Rattle.account_model.specs.declared.refusal.Refusal.{Refusal}
use Rattle.account_model.specs.declared.refusal.Refusal.TheVariants.{NoGap}
use Rattle.account_model.specs.Edits.{Edit}
use Rattle.account_model.specs.Edits.Edit.{Add}
use Rattle.account_model.specs.Tables.{subuid_records, subgid_records}
use Rattle.account_model.specs.Settings.{Setting, number}
use Rattle.account_model.specs.FreeRange.{free_range}
use Rattle.account_model.specs.Request.{Request, has_option, operand}
use Rattle.account_model.specs.SubidOwner.{is_owned}

-- a table of subordinate IDs, with the bounds and the count of a new range
pub record Subordinate : Type 0 where
  pub bytes : Option (List ℕ)
  pub records : List SubidRecord
  pub minimum : ℕ
  pub maximum : ℕ
  pub count : ℕ

-- the number of a key that is never -1
abbrev pub id_number : Key → List Setting → ℕ
id_number key settings = unwrap_or (number key settings) 0

-- subuid
abbrev pub subordinate_uids : Files → List Setting → Subordinate
subordinate_uids files settings = record {
  bytes = files.subuid;
  records = subuid_records files;
  minimum = id_number SubUidMin settings;
  maximum = id_number SubUidMax settings;
  count = id_number SubUidCount settings;
}

-- subgid
abbrev pub subordinate_gids : Files → List Setting → Subordinate
subordinate_gids files settings = record {
  bytes = files.subgid;
  records = subgid_records files;
  minimum = id_number SubGidMin settings;
  maximum = id_number SubGidMax settings;
  count = id_number SubGidCount settings;
}

-- the user is no system user, or `-F` is given
abbrev pub may_have_ranges : Request → Bool
may_have_ranges request = not (has_option (codes "r") request) || has_option (codes "F") request

-- A range is allotted where the table exists, no line of it is owned by the new user, and the user may have ranges. A
-- count of 0 allots none.
abbrev pub is_allotted : Request → Option ℕ → Subordinate → Bool
is_allotted request uid ids =
    is_some ids.bytes && not (list_any (is_owned (operand request) uid) ids.records)
    && may_have_ranges request && not (ids.count == 0)

-- where the new range begins
abbrev pub free_start : Subordinate → Option ℕ
free_start ids = free_range ids.minimum ids.maximum ids.count ids.records

-- what a new user gets of the table
abbrev pub allotment : Request → Option ℕ → Subordinate → Allotment
allotment request uid ids = if is_allotted request uid ids
    then elim (free_start ids) [
      | None ↦ Full
      | Some start ↦ Range start ids.count
    ]
    else Unwanted

-- a range is to be allotted, and there is no gap for it
abbrev pub no_gap : Tab → Allotment → Option Refusal
no_gap tab Unwanted = None
no_gap tab Full = Some (NoGap tab)
no_gap tab (Range first count) = None

-- `LOGIN:START:COUNT`
abbrev pub asked_range : Request → ℕ → ℕ → SubidRecord
asked_range request start count = record { owner = operand request; first = start; count = count }

-- the new line of the table, where there is a range
abbrev pub allotted : Request → Allotment → List (Edit SubidRecord)
allotted request Unwanted = []
allotted request Full = []
allotted request (Range first count) = Add (asked_range request first count) ∷ []
