use Rattle.std.proofs.Common.{◌≡◌, ◌≤◌, ◌++◌, drop, length, map}
use Rattle.acct_text.specs.Lines.{file_bytes, lines_of}
use Rattle.account_model.specs.Edits.{in_places}
use Rattle.check_reports.specs.Sorted.{seen_keyed}
use Rattle.check_reports.proofs.sorting.in_places.Given as goal

-- the bytes so far, with those of the lines left in which the texts left are placed, are all
abbrev pub invariant-lines : goal.invariant-lines
invariant-lines g l =
    let format = g.R.TableRecord.format in
    record {
      inside : l.next ≤ length l.keyed;
      placed : l.made ++ file_bytes (in_places format (map seen_keyed (drop l.next l.keyed)) l.left)
          ≡ file_bytes (in_places format (map seen_keyed l.keyed) (lines_of l.text));
    }

abbrev pub decreases-lines : goal.decreases-lines
decreases-lines g l = length l.left
