-- What a check looks up beside the line that it looks at, and how that is kept (pwck(8), grpck(8)).
use Rattle.std.specs.Prelude.{◌≡◌, ℕ, Bool, true, false, ◌==◌, List, Option, Some, if◌then◌else◌}
use Rattle.std.specs.List.{list_any}
use Rattle.acct_text.specs.Lines.{Line}
use Rattle.account_model.specs.declared.records.GroupRecord.{GroupRecord}
use Rattle.account_model.specs.Format.{Format, has_named}
use Rattle.acct_tables.specs.declared.name_index.NameIndex.{NameIndex}
use Rattle.acct_tables.specs.NameIndex.{IsLineNoted, TellsOf, begins_before, line_names, told}
use Rattle.account_model.specs.Tables.{table_lines}
use Rattle.check_reports.specs.declared.known.NamedFile.{NamedFile}

-- some of the groups has the GID
abbrev pub has_gid : List GroupRecord → ℕ → Bool
has_gid groups gid = list_any (λ group. group.gid == gid) groups

-- the lines whose names are kept: all of the file, or those that were checked
abbrev pub kept_lines : NamedFile → List Line → List Line
kept_lines table done = if table.is_whole then table_lines table.file.now else done

-- the names that are kept are those of the lines that were checked, or of all
abbrev pub HasNoted : {R : Type 0} → Format R → List Line → NamedFile → Type 0
HasNoted format done table = TellsOf (line_names format (kept_lines table done)) (told table.names)

-- the names that are kept are those of all records
abbrev pub IsWhole : {R : Type 0} → Format R → NamedFile → Type 0
IsWhole format table = TellsOf (line_names format (table_lines table.file.now)) (told table.names)

-- the line at this place is noted by its name, or by none, where the names of all aren't there
pub record NotesLine (name : Option (List ℕ)) (place : ℕ) (old new : NamedFile) : Type 0 where
  pub stays : new ≡ record old { names = new.names }
  pub whole : old.is_whole ≡ true → told new.names ≡ told old.names
  pub noted : old.is_whole ≡ false → IsLineNoted name place (told old.names) (told new.names)

-- of a record with this text it is told whether one of those before it has its name
abbrev pub TellsBefore : {R : Type 0} → Format R → NameIndex → ℕ → List R → List ℕ → Type 0
TellsBefore {R = R} format names place before text =
    (r : R) → format.read text ≡ Some r
    → has_named format (format.name r) before ≡ begins_before place (told names (format.name r))
