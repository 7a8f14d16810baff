use Rattle.std.proofs.Common.{◌≡◌, ◌++◌, length, map}
use Rattle.acct_text.specs.Lines.{lines_of}
use Rattle.account_model.specs.Edits.{keyed_texts}
use Rattle.check_reports.specs.Sorted.{seen_keyed}
use Rattle.check_reports.proofs.sorting.keyed_texts.Given as goal

-- the texts so far and those of the lines left are all
abbrev pub invariant-lines : goal.invariant-lines
invariant-lines g l =
    let format = g.R.TableRecord.format in
    let key = g.K.SortKey.key_of l.key in
    map seen_keyed l.keyed.items ++ keyed_texts format key l.left
    ≡ keyed_texts format key (lines_of l.text)

abbrev pub decreases-lines : goal.decreases-lines
decreases-lines g l = length l.left
