-- What edits of one table make of its file and meet in it, by what the changes make of its records
-- (passwd(5), shadow(5), group(5), gshadow(5)).
use Rattle.std.specs.Prelude.{ℕ, List, [], Option, unwrap_or}
use Rattle.std.specs.List.{AllByRecursion}
use Rattle.acct_text.specs.Lines.{lines_of}
use Rattle.account_model.specs.Edits.{first_multiple}
use Rattle.account_model.specs.Edits as model
use Rattle.account_model.specs.Format.{Format}
use Rattle.account_model.specs.RecordEdits.{IsWrittenEdit}
use Rattle.account_model.specs.Tables.{table_after}
use Rattle.acct_tables.specs.Cells.{cells_from}
use Rattle.line_edits.specs.SeenEdits.{seen_edits}
use Rattle.line_edits.specs.declared.edit.Edit.{Edit}
use Rattle.table.specs.Met.{AreEditedAt}

-- each edit prints only records that read back
abbrev pub AreWritten : {R C : Type 0} → Format R → (C → R → List R) → List (Edit R C) → Type 0
AreWritten format becomes edits = AllByRecursion (IsWrittenEdit format) (seen_edits becomes edits)

-- the bytes of the table after the edits; an absent one stays absent
abbrev pub table_by :
    {R C : Type 0} → Format R → (C → R → List R) → List (Edit R C) → Option (List ℕ)
    → Option (List ℕ)
table_by format becomes edits file = table_after format (seen_edits becomes edits) file

-- the name of the first record that the edits touch and whose name has two or more
abbrev pub multiple_by :
    {R C : Type 0} → Format R → (C → R → List R) → List (Edit R C) → List R → Option (List ℕ)
multiple_by format becomes edits records = first_multiple format (seen_edits becomes edits) records

-- the places, where such are told, have all lines of the file that the only edit changes
abbrev pub AreEditedIn :
    {R : Type 0} → Format R → List (model.Edit R) → Option (List ℕ) → List ℕ → Type 0
AreEditedIn format edits file places =
    AreEditedAt format edits (cells_from 0 (lines_of (unwrap_or file []))) places
