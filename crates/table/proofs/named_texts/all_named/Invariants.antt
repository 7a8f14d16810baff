use Rattle.std.proofs.Common.{◌≡◌, ◌++◌, filter, length}
use Rattle.account_model.specs.Format.{is_named}
use Rattle.table.specs.TableCells.{records_read}
use Rattle.table.proofs.named_texts.all_named.Given as goal

-- what is found, with the records of the name among the texts left, are all
abbrev pub invariant-texts : goal.invariant-texts
invariant-texts g l =
    let format = g.R.TableRecord.format in
    l.found.items ++ filter (is_named format l.name) (records_read format l.left)
    ≡ filter (is_named format l.name) (records_read format l.fn.left)

abbrev pub decreases-texts : goal.decreases-texts
decreases-texts g l = length l.left
