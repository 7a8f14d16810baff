use Rattle.std.proofs.Common.{◌≡◌, ◌++◌, ◌∷◌, [], length}
use Rattle.std.specs.Prelude.{flat_map}
use Rattle.acct_text.specs.Lines.{Line, file_bytes, lines_of}
use Rattle.account_model.specs.Edits.{edited_by}
use Rattle.account_model.specs.Records.{subid_format}
use Rattle.line_edits.specs.SeenEdits.{seen_edits}
use Rattle.line_edits.specs.SubidChanges.{subid_becomes}
use Rattle.carried_tables.proofs.range_edits.text_without.Given as goal

-- the bytes so far, with those of what is left of each line that is left, are those of all
abbrev pub invariant-lines : goal.invariant-lines
invariant-lines l =
    let left_of = λ (line : Line).
    edited_by subid_format (seen_edits subid_becomes l.edits) (line ∷ []) in
    l.made ++ file_bytes (flat_map left_of l.left) ≡ file_bytes (flat_map left_of (lines_of l.text))

abbrev pub decreases-lines : goal.decreases-lines
decreases-lines l = length l.left
