use Rattle.std.proofs.Common.{◌∙◌, ap}
use Rattle.std.specs.Prelude.{fold}
use Rattle.acct_text.specs.Pieces.{cut_at}
use Rattle.account_model.specs.Text.{comma}
use Rattle.acct_lines.specs.Listed.{listed_behind}
use Rattle.acct_lines.proofs.ListedTexts.{listed-all}
use Rattle.acct_lines.proofs.listed.listed_text.Goals as goal

pub names-init : goal.names-init
names-init c =
    let pieces = cut_at comma c.args.text.now in
    ap (λ list. fold listed_behind list pieces) c.in_ok-list.ensures ∙ listed-all pieces
