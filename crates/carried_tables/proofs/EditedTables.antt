-- Claims: the first edit of a list and then the others make of a table what all make (`table-two`), and the
-- only edit of a list may print what all may (`only-written`). Way: what an edit makes of lines are lines
-- of a file (`table-step`).
use Rattle.std.proofs.Common.{◌≡◌, ℕ, true, List, [], ◌∷◌, arith, get_or, length, refl, sym, ap, subst, take, drop}
use Rattle.std.specs.Prelude.{Option, Some, None, is_some}
use Rattle.acct_text.specs.Lines.{file_bytes, lines_of}
use Rattle.account_model.specs.Edits.{Edit, edited, edited_by}
use Rattle.account_model.specs.Format.{Format}
use Rattle.account_model.specs.RecordEdits.{IsWrittenEdit}
use Rattle.account_model.specs.Tables.{table_after}
use Rattle.acct_tables.proofs.EditedFiles.{edit-found}
use Rattle.line_edits.specs.declared.edit.Edit.{Edit as DataEdit}
use Rattle.line_edits.specs.SeenEdits.{seen_edit, seen_edits}
use Rattle.table.specs.TableEdits.{AreWritten, table_by}
use Rattle.table.proofs.TableLemmas.{no-edit}

module _ {R : Type 0} (format : Format R) where
  -- an edit, and then the others
  pub table-step :
      (edit : Edit R) (rest : List (Edit R)) (file : Option (List ℕ))
      → format.read [] ≡ None
      → IsWrittenEdit format edit
      → table_after format rest (table_after format (edit ∷ []) file)
      ≡ table_after format (edit ∷ rest) file
  table-step edit rest None none written = refl
  table-step edit rest (Some text) none written =
      ap (λ lines. Some (file_bytes (edited_by format rest lines)))
      (edit-found format none edit written text (file_bytes (edited format (lines_of text) edit))
      refl)

  -- a file that is there stays there
  pub table-there :
      (edits : List (Edit R)) (file : Option (List ℕ))
      → is_some file ≡ true
      → is_some (table_after format edits file) ≡ true
  table-there edits None there = there
  table-there edits (Some text) there = refl

-- the first edit of a list, and then the others
pub table-two :
    {R C : Type 0} (becomes : C → R → List R) (format : Format R) (edits : List (DataEdit R C))
    (file : Option (List ℕ))
    → format.read [] ≡ None
    → AreWritten format becomes edits
    → table_by format becomes (drop 1 edits) (table_by format becomes (take 1 edits) file)
    ≡ table_by format becomes edits file
table-two becomes format [] file none written =
    sym (no-edit format (table_after format [] file))
table-two becomes format (edit ∷ edits) file none written =
    table-step format (seen_edit becomes edit) (seen_edits becomes edits) file none written.0

-- a list of one
pub only-one :
    {X : Type 0} (xs : List X) (x : X) → length xs ≡ 1 → x ≡ get_or xs 0 x → xs ≡ x ∷ []
only-one [] x one is = absurd (omega (arith, one))
only-one (y ∷ []) x one is = ap (λ z. z ∷ []) (sym is)
only-one (y ∷ z ∷ rest) x one is = absurd (omega (arith, one))

-- the only edit may print what all may
pub only-written :
    {R C : Type 0} (becomes : C → R → List R) (format : Format R) (edits : List (DataEdit R C))
    (edit : DataEdit R C)
    → edits ≡ edit ∷ []
    → AreWritten format becomes edits
    → IsWrittenEdit format (seen_edit becomes edit)
only-written becomes format edits edit is written =
    (subst (AreWritten format becomes) is written).0
