-- Claim: the records of the lines of a file can be written again (`lines-written`). Way: line by line,
-- as none holds a newline.
use Rattle.std.proofs.Common.{◌≡◌, ℕ, List, [], ◌∷◌, refl}
use Rattle.std.specs.Prelude.{Option, Some, None}
use Rattle.std.specs.List.{AllByRecursion}
use Rattle.acct_text.specs.Bytes.{newline}
use Rattle.acct_text.specs.Lines.{Line, lines_of}
use Rattle.acct_text.specs.Pieces.{Lacks}
use Rattle.acct_text.proofs.LinesLaws.{lines_of-are}
use Rattle.account_model.specs.declared.fault.LineFault.{LineFault}
use Rattle.account_model.specs.Format.{Format}
use Rattle.account_model.specs.LineFormat.{IsLineFormat}
use Rattle.line_edits.specs.WrittenLines.{AreWrittenLines, IsWrittenRead}

module _ {R : Type 0} (format : Format R) (fault : List ℕ → Option LineFault)
    (is : IsLineFormat format fault) where
  -- what is read from a line can be written again
  read-written :
      (text : List ℕ) (found : Option R)
      → Lacks newline text
      → format.read text ≡ found
      → IsWrittenRead format found
  read-written text None lacks reads = tt
  read-written text (Some r) lacks reads = is.written text r lacks reads

  -- so can the records of lines without a newline
  all-written :
      (lines : List Line)
      → AllByRecursion (λ line. Lacks newline line.text) lines
      → AreWrittenLines format lines
  all-written [] apart = tt
  all-written (line ∷ lines) apart =
      (read-written line.text (format.read line.text) apart.0 refl, all-written lines apart.1)

  -- and those of the lines of a file
  pub lines-written : (text : List ℕ) → AreWrittenLines format (lines_of text)
  lines-written text = all-written (lines_of text) (lines_of-are text).apart
