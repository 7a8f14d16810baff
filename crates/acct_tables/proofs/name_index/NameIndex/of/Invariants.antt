use Rattle.std.proofs.Common.{◌≡◌, drop, length, take}
use Rattle.acct_text.specs.Lines.{lines_of}
use Rattle.acct_tables.specs.NameIndex.{TellsOf, line_names, told}
use Rattle.acct_tables.proofs.name_index.NameIndex.of.Given as goal

-- the index tells of the lines so far, and the others are left
abbrev pub invariant-lines : goal.invariant-lines
invariant-lines g l = record {
  so_far : l.left ≡ drop l.place (lines_of l.text);
  tells :
      TellsOf (line_names g.R.TableRecord.format (take l.place (lines_of l.text))) (told l.index);
}

abbrev pub decreases-lines : goal.decreases-lines
decreases-lines g l = length l.left
