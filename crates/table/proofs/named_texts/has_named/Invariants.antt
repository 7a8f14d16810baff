use Rattle.std.proofs.Common.{◌≡◌, length}
use Rattle.std.specs.List.{list_any}
use Rattle.acct_tables.specs.TableLines.{text_is_named}
use Rattle.table.proofs.named_texts.has_named.Given as goal

-- a record among the texts left has the name where one among all has it
abbrev pub invariant-texts : goal.invariant-texts
invariant-texts g l =
    let named = text_is_named g.R.TableRecord.format l.name in
    list_any named l.left ≡ list_any named l.fn.left

abbrev pub decreases-texts : goal.decreases-texts
decreases-texts g l = length l.left
