use Rattle.std.proofs.Common.{◌≡◌, length}
use Rattle.acct_text.specs.Pieces.{cut_at}
use Rattle.account_model.specs.Text.{comma, is_listed, nonempty}
use Rattle.account_model.specs.Records.{read_names}
use Rattle.acct_lines.proofs.fields.lists.Given as goal

-- the name is among the pieces of the rest, if among those of the text
abbrev pub invariant-names : goal.invariant-names
invariant-names l =
    is_listed l.name (nonempty (cut_at comma l.rest)) ≡ is_listed l.name (read_names l.text)

abbrev pub decreases-names : goal.decreases-names
decreases-names l = length l.rest
