-- Claim: the lines of a file are those of one after an edit that prints only what reads back
-- (`edit-of_file`), so they are found again in its text (`edit-found`).
use Rattle.std.proofs.Common.{◌≡◌, ◌∙◌, ℕ, List, [], ◌∷◌, ap, subst}
use Rattle.std.specs.Prelude.{None}
use Rattle.acct_text.specs.Lines.{Line, file_bytes, lines_of}
use Rattle.acct_text.proofs.LinesLaws.{lines_of-are, lines_of-only}
use Rattle.account_model.specs.Edits.{Edit, edited}
use Rattle.account_model.specs.Format.{Format}
use Rattle.account_model.specs.RecordEdits.{IsWrittenEdit}
use Rattle.account_model.proofs.EditLines.{edited-lines}
use Rattle.acct_tables.specs.SeenLines.{AreOfFile}

-- the lines of a text are those of a file
pub text-of_file : (text : List ℕ) → AreOfFile (lines_of text)
text-of_file text = ap lines_of (lines_of-are text).joined

module _ {R : Type 0} (format : Format R) (no_blank : format.read [] ≡ None)
    (edit : Edit R) (written : IsWrittenEdit format edit) where
  -- the lines of a text after an edit are those of a file
  edited-of_file : (text : List ℕ) → AreOfFile (edited format (lines_of text) edit)
  edited-of_file text =
      lines_of-only
      (file_bytes (edited format (lines_of text) edit))
      (edited format (lines_of text) edit)
      (edited-lines format no_blank (edit ∷ []) text (written, tt))

  -- and so are those of any file
  pub edit-of_file : (lines : List Line) → AreOfFile lines → AreOfFile (edited format lines edit)
  edit-of_file lines of_file =
      subst (λ found. AreOfFile (edited format found edit)) of_file
      (edited-of_file (file_bytes lines))

  -- they are found in the text that they make
  pub edit-found :
      (text new : List ℕ)
      → new ≡ file_bytes (edited format (lines_of text) edit)
      → lines_of new ≡ edited format (lines_of text) edit
  edit-found text new is = ap lines_of is ∙ edited-of_file text
