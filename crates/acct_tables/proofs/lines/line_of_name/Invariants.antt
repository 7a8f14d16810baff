use Rattle.std.proofs.Common.{◌≡◌, length}
use Rattle.acct_text.specs.Lines.{lines_of}
use Rattle.account_model.specs.Format.{find_named, records_of}
use Rattle.acct_tables.proofs.lines.line_of_name.Given as goal

-- what is found among the lines left is what is found among all
abbrev pub invariant-lines : goal.invariant-lines
invariant-lines g l =
    let format = g.R.TableRecord.format in
    find_named format l.name (records_of format l.left)
    ≡ find_named format l.name (records_of format (lines_of l.text))

abbrev pub decreases-lines : goal.decreases-lines
decreases-lines g l = length l.left
