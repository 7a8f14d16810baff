use Rattle.std.proofs.Common.{length, map}
use Rattle.acct_text.specs.Lines.{lines_of}
use Rattle.account_model.specs.Format.{records_of}
use Rattle.acct_tables.proofs.GatheredIds.{Gathers}
use Rattle.acct_tables.proofs.ids.listed_ids.Given as goal

-- the IDs so far, with those of the lines left, are all
abbrev pub invariant-lines : goal.invariant-lines
invariant-lines g l =
    let format = g.R.TableRecord.format in
    let number = g.R.NumberedRecord.id_of in
    Gathers format number (map number (records_of format (lines_of l.text))) l.ids.items l.left

abbrev pub decreases-lines : goal.decreases-lines
decreases-lines g l = length l.left
