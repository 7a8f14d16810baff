use Rattle.std.proofs.Common.{◌≡◌, length}
use Rattle.std.specs.Prelude.{find}
use Rattle.acct_text.specs.Lines.{lines_of}
use Rattle.account_model.specs.Format.{records_of}
use Rattle.check_reports.specs.LineChanges.{is_met_by}
use Rattle.check_reports.proofs.line_changes.first_met.Given as goal

-- the first that is met among the lines left is the first of all
abbrev pub invariant-lines : goal.invariant-lines
invariant-lines g l =
    let format = g.R.TableRecord.format in
    let change = g.C.LineChange.change l.change in
    let all = records_of format (lines_of l.text) in
    find (is_met_by format change all) (records_of format l.left)
    ≡ find (is_met_by format change all) all

abbrev pub decreases-lines : goal.decreases-lines
decreases-lines g l = length l.left
