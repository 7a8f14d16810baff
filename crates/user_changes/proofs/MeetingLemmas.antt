-- Claim: the lines of a text after the renaming of the owner and the removals are those of a file
-- (`lines-before`), for the edits print only what reads back (`removals-written`).
use Rattle.std.proofs.Common.{◌≡◌, ℕ, List, [], refl, subst}
use Rattle.std.specs.List.{AllByRecursion}
use Rattle.std.proofs.lemmas.List.{append-nil}
use Rattle.acct_text.specs.Lines.{file_bytes, lines_of}
use Rattle.acct_text.proofs.LinesLaws.{lines_of-only}
use Rattle.account_model.specs.Edits.{Edit, edited_by}
use Rattle.account_model.specs.Records.{subid_format}
use Rattle.account_model.specs.RecordEdits.{IsWrittenEdit}
use Rattle.account_model.specs.UsermodRanges.{RangeOwner, RangeChange, edits_before_adding, range_edits}
use Rattle.account_model.specs.Written.{IsNameField}
use Rattle.account_model.proofs.EditLines.{edited-lines}
use Rattle.account_model.proofs.UsermodRangeScripts.{range-edits-written}

-- the edits before adding are those of a change that adds none
no-additions :
    (owner : RangeOwner) (removed : _)
    → range_edits owner (record { removed = removed; added = [] })
    ≡ edits_before_adding owner (record { removed = removed; added = [] })
no-additions owner removed = append-nil _

-- the renaming and the removals print only what reads back
pub removals-written :
    (owner : RangeOwner) (change : RangeChange)
    → IsNameField owner.new_name
    → AllByRecursion (IsWrittenEdit subid_format) (edits_before_adding owner change)
removals-written owner change named =
    subst (AllByRecursion (IsWrittenEdit subid_format)) (no-additions owner change.removed)
    (range-edits-written owner (record { removed = change.removed; added = [] }) named tt)

-- the lines after edits that print only what reads back are those of their bytes
pub lines-before :
    (edits : List (Edit _)) (text : List ℕ)
    → AllByRecursion (IsWrittenEdit subid_format) edits
    → lines_of (file_bytes (edited_by subid_format edits (lines_of text)))
    ≡ edited_by subid_format edits (lines_of text)
lines-before edits text written =
    let after = edited_by subid_format edits (lines_of text) in
    lines_of-only (file_bytes after) after (edited-lines subid_format refl edits text written)
