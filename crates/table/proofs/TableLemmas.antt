-- Claims: no edit leaves a table (`no-edit`), and the bytes that are seen of it have its records
-- (`seen-records`) and its lines in their places (`file-cells`). What the only edit makes of the lines is
-- what it makes of the table (`edited-alone`). Way: by whether the file is there.
use Rattle.std.proofs.Common.{◌≡◌, ◌∙◌, ℕ, List, [], ◌∷◌, refl, sym, ap, subst}
use Rattle.std.specs.Prelude.{Option, Some, None, unwrap_or}
use Rattle.std.specs.List.{AllByRecursion}
use Rattle.acct_text.specs.Lines.{Line, file_bytes, lines_of}
use Rattle.acct_text.proofs.LinesLaws.{lines_of-are}
use Rattle.account_model.specs.Edits.{edited}
use Rattle.account_model.specs.Edits as model
use Rattle.account_model.specs.Format.{Format, records_of}
use Rattle.account_model.specs.RecordEdits.{IsWrittenEdit}
use Rattle.account_model.specs.Tables.{table_after, table_records}
use Rattle.acct_tables.specs.Cells.{cells_from}
use Rattle.acct_tables.specs.SeenLines.{AreOfFile}
use Rattle.acct_tables.proofs.EditedFiles.{edit-of_file}
use Rattle.line_edits.specs.SeenEdits.{seen_edits}
use Rattle.line_edits.specs.declared.edit.Edit.{Edit}
use Rattle.table.specs.TableEdits.{AreWritten, table_by}

-- the table after no edit
pub no-edit :
    {R : Type 0} (format : Format R) (file : Option (List ℕ)) → file ≡ table_after format [] file
no-edit format None = refl
no-edit format (Some text) = ap Some (sym (lines_of-are text).joined)

-- the records of the bytes that are seen of a file are those of the table
seen-file :
    {R : Type 0} (format : Format R) (file : Option (List ℕ))
    → records_of format (lines_of (unwrap_or file [])) ≡ table_records format file
seen-file format None = refl
seen-file format (Some text) = refl

-- and so are those of bytes that are these
pub seen-records :
    {R : Type 0} (format : Format R) (file : Option (List ℕ)) (text : List ℕ)
    → text ≡ unwrap_or file []
    → records_of format (lines_of text) ≡ table_records format file
seen-records format file text is =
    ap (λ text. records_of format (lines_of text)) is ∙ seen-file format file

-- the bytes that lines make have these in their places
pub file-cells :
    (file : Option (List ℕ)) (lines : List Line)
    → file ≡ Some (file_bytes lines)
    → AreOfFile lines
    → cells_from 0 (lines_of (unwrap_or file [])) ≡ cells_from 0 lines
file-cells file lines is of_file =
    ap (λ file. cells_from 0 (lines_of (unwrap_or file []))) is ∙ ap (cells_from 0) of_file

-- what the only edit makes of lines is what it makes of their table
pub edited-alone :
    {R C : Type 0} (format : Format R) (becomes : C → R → List R) (edits : List (Edit R C))
    (edit : model.Edit R) (file : Option (List ℕ)) (before after now : List Line)
    → format.read [] ≡ None
    → seen_edits becomes edits ≡ edit ∷ []
    → AreWritten format becomes edits
    → file ≡ Some (file_bytes before)
    → AreOfFile before
    → after ≡ edited format before edit
    → (AreOfFile after → now ≡ after)
    → AreOfFile now × (Some (file_bytes now) ≡ table_by format becomes edits file) × (now ≡ after)
edited-alone format becomes edits edit file before after now blank only written is of_file made renewed =
    let all = subst (AllByRecursion (IsWrittenEdit format)) only written in
    let of_new : AreOfFile after = subst AreOfFile (sym made)
    (edit-of_file format blank edit all.0 before of_file) in
    let same : now ≡ after = renewed of_new in (
      subst AreOfFile (sym same) of_new,
      ap (λ lines. Some (file_bytes lines)) (same ∙ made)
          ∙ sym (ap (λ lines. Some (file_bytes (edited format lines edit))) of_file)
          ∙ ap (λ edits. table_after format edits (Some (file_bytes before))) (sym only)
          ∙ ap (table_after format (seen_edits becomes edits)) (sym is),
      same,
    )
