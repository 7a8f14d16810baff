-- The summary of a rehearsal: how many commands ran and how many changed the tables, and of each table
-- how many lines and bytes it then has.
use Rattle.std.specs.Prelude.{ℕ, List, [], ◌∷◌, ◌++◌, codes, decimal, length}
use Rattle.std.specs.List.{flat_map}
use Rattle.acct_text.specs.Bytes.{Bytes, newline}
use Rattle.acct_text.specs.Lines.{lines_of}
use Rattle.acct_text.specs.Tables.{all_tables, table_name}
use Rattle.acct_text.specs.declared.Tab.{Tab}
use Rattle.rehearsal.specs.declared.asked.Rehearsal.{Rehearsal}
use Rattle.rehearsal.specs.declared.course.Reached.{Reached}
use Rattle.rehearsal.specs.Course.{reached}
use Rattle.rehearsal.specs.Images.{text_of}

-- a blank and a number
abbrev pub spaced : ℕ → Bytes
spaced number = codes " " ++ decimal number

-- `WORD COUNT`
abbrev pub count_line : Bytes → ℕ → Bytes
count_line word count = word ++ spaced count ++ newline ∷ []

-- `TABLE LINES BYTES`
abbrev pub summary_line : Tab → Bytes → Bytes
summary_line table text =
    table_name table ++ spaced (length (lines_of text)) ++ spaced (length text) ++ newline ∷ []

-- the lines of these tables
abbrev pub summary_lines : Reached → List Tab → Bytes
summary_lines last tables = flat_map (λ table. summary_line table (text_of last.files table)) tables

-- the summary of so many commands that left this
abbrev pub summary_with : ℕ → Reached → Bytes
summary_with count last = count_line (codes "commands") count
    ++ count_line (codes "changed") last.changed ++ summary_lines last all_tables

-- the summary of a rehearsal
abbrev pub summary_of : Rehearsal → Bytes
summary_of asked = summary_with asked.count (reached asked.seed asked.count)
