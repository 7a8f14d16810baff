use Rattle.std.proofs.Common.{◌≡◌, ◌+◌, length, if◌then◌else◌}
use Rattle.acct_text.specs.Lines.{lines_of}
use Rattle.account_model.specs.Format.{count_named, records_of}
use Rattle.acct_tables.proofs.lines.has_several_records.Given as goal

-- the records of the name that the lines left have, with the one that was found, are all
abbrev pub invariant-lines : goal.invariant-lines
invariant-lines g l =
    let format = g.R.TableRecord.format in
    count_named format l.name (records_of format (lines_of l.text))
    ≡ (if l.is_found then 1 else 0) + count_named format l.name (records_of format l.left)

abbrev pub decreases-lines : goal.decreases-lines
decreases-lines g l = length l.left
