-- Claim: the lines of a table's file have the records of the table (`records-in`). Way: by whether
-- the file is there.
use Rattle.std.proofs.Common.{◌≡◌, ℕ, List, refl, ap, ◌∙◌}
use Rattle.std.specs.Prelude.{Option, Some, None}
use Rattle.acct_text.specs.Lines.{Line}
use Rattle.account_model.specs.Format.{Format, records_of}
use Rattle.account_model.specs.Tables.{table_records, table_lines}

-- by whether the file is there
in-file :
    {R : Type 0} (format : Format R) (file : Option (List ℕ))
    → records_of format (table_lines file) ≡ table_records format file
in-file format None = refl
in-file format (Some bytes) = refl

-- the records of the lines are those of the table
pub records-in :
    {R : Type 0} (format : Format R) (lines : List Line) (file : Option (List ℕ))
    → lines ≡ table_lines file
    → records_of format lines ≡ table_records format file
records-in format lines file are = ap (records_of format) are ∙ in-file format file
