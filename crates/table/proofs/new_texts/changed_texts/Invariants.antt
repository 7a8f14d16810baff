use Rattle.std.proofs.Common.{◌≡◌, ◌++◌, length}
use Rattle.std.specs.Prelude.{flat_map}
use Rattle.std.specs.List.{AllByRecursion}
use Rattle.acct_text.specs.Bytes.{newline}
use Rattle.acct_text.specs.Pieces.{Lacks}
use Rattle.table.specs.Changed.{texts_becoming}
use Rattle.table.proofs.new_texts.changed_texts.Given as goal

-- what is made, with what the texts left become, is what all become
abbrev pub invariant-texts : goal.invariant-texts
invariant-texts g l =
    let becoming = texts_becoming g.R.TableRecord.format (g.R.EditedRecord.becomes l.change) in
    record {
      made : l.made.items ++ flat_map becoming l.left ≡ flat_map becoming l.fn.left;
      one_line : AllByRecursion (Lacks newline) l.left;
    }

abbrev pub decreases-texts : goal.decreases-texts
decreases-texts g l = length l.left
