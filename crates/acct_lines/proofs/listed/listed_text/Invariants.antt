use Rattle.std.proofs.Common.{◌≡◌, length}
use Rattle.std.specs.Prelude.{fold}
use Rattle.acct_text.specs.Pieces.{cut_at}
use Rattle.account_model.specs.Text.{comma}
use Rattle.account_model.specs.Records.{print_names, read_names}
use Rattle.acct_lines.specs.Listed.{listed_behind}
use Rattle.acct_lines.proofs.listed.listed_text.Given as goal

-- the pieces of the rest behind the names so far give the list of the text
abbrev pub invariant-names : goal.invariant-names
invariant-names l =
    fold listed_behind l.list (cut_at comma l.rest) ≡ print_names (read_names l.text)

abbrev pub decreases-names : goal.decreases-names
decreases-names l = length l.rest
