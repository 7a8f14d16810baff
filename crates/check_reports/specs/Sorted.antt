-- The text of a record with its key as account_model has it: one of the program stands for one of
-- these; where names stand among the records of a table; and what it is to sort a table and that of
-- its hashes (pwck(8), grpck(8), `-s`).
use Rattle.std.specs.Prelude.{◌≡◌, ◌+◌, ◌&&◌, ℕ, true, not, List, [], ◌∷◌, Some, None, length, map, option_map, unwrap_or}
use Rattle.std.specs.List.{position_or_len}
use Rattle.acct_text.specs.declared.Tab.{Tab}
use Rattle.acct_text.specs.declared.files.Files.{Files}
use Rattle.acct_text.specs.ChangedTables.{changed_among, changed_tables}
use Rattle.acct_text.specs.Files.{table_of}
use Rattle.account_model.specs.Format.{Format, is_named}
use Rattle.account_model.specs.Edits as model
use Rattle.account_model.specs.Edits.{Arrange}
use Rattle.account_model.specs.Tables.{Script, files_after, table_after, table_records}
use Rattle.account_model.specs.Action.{multiple_entries}
use Rattle.acct_tables.specs.NameIndex.{IsNoted, TellsOf, TellsAtMost, are_several, told}
use Rattle.check_reports.specs.declared.sorting.ByPlace.{ByPlace}
use Rattle.check_reports.specs.declared.sorting.Keyed.{Keyed}

-- the text, with its key
abbrev pub seen_keyed : Keyed → model.Keyed
seen_keyed keyed = record { key = keyed.key; text = keyed.text.now }

-- the place of the first record of the name that is kept, or how many records are
abbrev pub kept_place : ByPlace → List ℕ → ℕ
kept_place kept name =
    unwrap_or (option_map (λ found. found.first) (told kept.names name)) kept.count

-- the places and the count that are kept are those of the records, counted from 0
pub record IsOrderOf {R : Type 0} (format : Format R) (records : List R) (kept : ByPlace)
    : Type 0 where
  pub first : TellsOf (map (λ r. Some (format.name r)) records) (told kept.names)
  pub counted : kept.count ≡ length records
  -- where the names are said to differ, each has one record
  pub differ : kept.differ ≡ true → TellsAtMost 1 (told kept.names)

-- one more record of the name has its place behind the others
pub record IsPlaced (name : List ℕ) (old new : ByPlace) : Type 0 where
  pub noted : IsNoted name old.count (told old.names) (told new.names)
  pub counted : new.count ≡ old.count + 1
  pub differ : new.differ ≡ (old.differ && not (are_several (told new.names name)))

-- the place of the first of the records that has a record's name, or how many they are
abbrev pub place_in : {M R : Type 0} → Format M → List M → Format R → R → ℕ
place_in main_format records format r =
    position_or_len (is_named main_format (format.name r)) records

-- the script sorts the main table by a key, and the table of its hashes by the place of the name in
-- the sorted one; it leaves the other tables, and touches no record
pub record Sorts {M R : Type 0} (main_format : Format M) (format : Format R) (key : M → ℕ)
    (main hashes : Tab) (script : Script) (files : Files) : Type 0 where
  pub sorts_main : table_of (files_after script files) main
      ≡ table_after main_format (Arrange key ∷ []) (table_of files main)
  pub sorts_hashes : table_of (files_after script files) hashes
      ≡ table_after format
      (Arrange (place_in main_format
      (table_records main_format (table_of (files_after script files) main)) format) ∷ [])
      (table_of files hashes)
  pub leaves_others :
      changed_among (main ∷ hashes ∷ []) (table_of files) (table_of (files_after script files))
      ≡ changed_tables (table_of files) (table_of (files_after script files))
  pub touches_none : multiple_entries script files ≡ None
