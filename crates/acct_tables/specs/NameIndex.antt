-- Where the records of each name stand among the lines of a table, and what an index tells of it
-- (passwd(5), shadow(5), group(5), gshadow(5)). Places count the lines from 0.
use Rattle.std.specs.Prelude.{◌≡◌, ℕ, ◌+◌, ◌≤◌, Bool, false, List, map, nat_le, nat_lt, Option, None, Some, option_map, bytes_eq, count_by, IfSome, if◌then◌else◌}
use Rattle.std.specs.HashMap.{get_by}
use Rattle.std.specs.List.{position_from}
use Rattle.acct_text.specs.Lines.{Line}
use Rattle.account_model.specs.Format.{Format}
use Rattle.acct_tables.specs.declared.name_index.NameIndex.{NameIndex}
use Rattle.acct_tables.specs.declared.name_index.NamedLines.{NamedLines}

-- ---- Names of lines

-- the name of a line, where it is a record
abbrev pub line_name : {R : Type 0} → Format R → Line → Option (List ℕ)
line_name format line = option_map format.name (format.read line.text)

-- the names of all lines
abbrev pub line_names : {R : Type 0} → Format R → List Line → List (Option (List ℕ))
line_names format lines = map (line_name format) lines

-- whether a line of this name, or of none, has the name
abbrev pub has_name : List ℕ → Option (List ℕ) → Bool
has_name name None = false
has_name name (Some found) = bytes_eq found name

-- ---- The records of a name

-- so many records, of which the first stands here; none where there is no first
abbrev pub records_at : Option ℕ → ℕ → Option NamedLines
records_at None count = None
records_at (Some first) count = Some (record { first = first; count = count })

-- those of the name among lines of these names
abbrev pub lines_named : List ℕ → List (Option (List ℕ)) → Option NamedLines
lines_named name names =
    records_at (position_from (has_name name) 0 names) (count_by (has_name name) names)

-- the records with one more at this place, behind the others
abbrev pub with_last : ℕ → Option NamedLines → NamedLines
with_last place None = record { first = place; count = 1 }
with_last place (Some found) = record { first = found.first; count = found.count + 1 }

-- whether the first stands in front of a place
abbrev pub begins_before : ℕ → Option NamedLines → Bool
begins_before place None = false
begins_before place (Some found) = nat_lt found.first place

-- whether they are several
abbrev pub are_several : Option NamedLines → Bool
are_several None = false
are_several (Some found) = nat_le 2 found.count

-- ---- What an index tells

-- the records of each name
abbrev pub Told : Type 0
Told = List ℕ → Option NamedLines

-- what the index tells
abbrev pub told : NameIndex → Told
told index name = get_by (λ key. bytes_eq name key.now) index.names

-- of each name it is told what is so among lines of these names
abbrev pub TellsOf : List (Option (List ℕ)) → Told → Type 0
TellsOf names told = (name : List ℕ) → told name ≡ lines_named name names

-- of no name more than so many records are told
abbrev pub TellsAtMost : ℕ → Told → Type 0
TellsAtMost most told = (name : List ℕ) → IfSome (told name) (λ found. found.count ≤ most)

-- one more record of the name is told, at this place, and of other names what was told before
abbrev pub IsNoted : List ℕ → ℕ → Told → Told → Type 0
IsNoted name place old new = (other : List ℕ) → new other
    ≡ (if bytes_eq name other then Some (with_last place (old name)) else old other)

-- the line at this place is told by its name, and one of none, which is other text, changes nothing
abbrev pub IsLineNoted : Option (List ℕ) → ℕ → Told → Told → Type 0
IsLineNoted None place old new = new ≡ old
IsLineNoted (Some name) place old new = IsNoted name place old new
