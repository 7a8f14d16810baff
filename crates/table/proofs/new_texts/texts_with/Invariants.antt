use Rattle.std.proofs.Common.{◌≡◌, ◌++◌, length}
use Rattle.std.specs.List.{AllByRecursion}
use Rattle.acct_text.specs.Bytes.{newline}
use Rattle.acct_text.specs.Pieces.{Lacks}
use Rattle.table.specs.Changed.{texts_with}
use Rattle.table.proofs.new_texts.texts_with.Given as goal

-- what is made, with the texts left and the record among them, are all with it
abbrev pub invariant-texts : goal.invariant-texts
invariant-texts g l =
    let format = g.R.TableRecord.format in
    record {
      made : l.made.items ++ texts_with format l.item l.left ≡ texts_with format l.item l.fn.left;
      one_line : AllByRecursion (Lacks newline) l.left;
    }

abbrev pub decreases-texts : goal.decreases-texts
decreases-texts g l = length l.left
