use Rattle.std.proofs.Common.{◌≡◌, ◌++◌, length}
use Rattle.acct_text.specs.Pieces.{cut_at}
use Rattle.account_model.specs.Text.{comma, nonempty}
use Rattle.account_model.specs.Records.{read_names}
use Rattle.acct_lines.proofs.fields.cut_names.Given as goal

-- the names so far and those of the rest are the names of the text
abbrev pub invariant-names : goal.invariant-names
invariant-names l = l.names ++ nonempty (cut_at comma l.rest) ≡ read_names l.text

abbrev pub decreases-names : goal.decreases-names
decreases-names l = length l.rest
