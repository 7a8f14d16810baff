use Rattle.std.proofs.Common.{◌≡◌, ◌++◌, length}
use Rattle.std.specs.Prelude.{flat_map}
use Rattle.acct_text.specs.Lines.{file_bytes, lines_of}
use Rattle.account_model.specs.Edits.{becomes}
use Rattle.account_model.specs.Records.{subid_format}
use Rattle.line_edits.specs.SubidChanges.{subid_becomes}
use Rattle.line_edits.specs.declared.subid_changes.SubidChange.TheVariants.{Remove}
use Rattle.carried_tables.proofs.removed_owner.text_without_owner.Given as goal

-- the bytes so far, with those of what becomes of each line that is left, are those of all
abbrev pub invariant-lines : goal.invariant-lines
invariant-lines l =
    let change = becomes subid_format (subid_becomes (Remove l.owner l.uid)) in
    l.made ++ file_bytes (flat_map change l.left) ≡ file_bytes (flat_map change (lines_of l.text))

abbrev pub decreases-lines : goal.decreases-lines
decreases-lines l = length l.left
