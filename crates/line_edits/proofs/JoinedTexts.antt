-- Claim: the text of a group's list with a user behind it who joins the group is that of the members
-- then (`longer-listed`). Way: one more name goes behind the others, in the text as in the list.
use Rattle.std.proofs.Common.{◌≡◌, ℕ, List, ap, sym, ◌∙◌}
use Rattle.acct_text.specs.Pieces.{cut_at}
use Rattle.account_model.specs.Records.{print_names, read_names}
use Rattle.account_model.specs.Text.{comma}
use Rattle.acct_lines.specs.Listed.{listed_behind}
use Rattle.acct_lines.proofs.ListedTexts.{listed-more}
use Rattle.line_edits.specs.declared.memberships.Membership.{Membership}
use Rattle.line_edits.specs.Memberships.{Adds, members_by}

module _ (membership : Membership) (group : List ℕ) where
  -- the text of a list with the user behind it
  pub longer-listed :
      (text list longer : List ℕ)
      → Adds membership group (read_names text)
      → list ≡ print_names (read_names text)
      → longer ≡ listed_behind list membership.user
      → longer ≡ print_names (members_by membership group (read_names text))
  longer-listed text list longer added listed more =
      more
      ∙ ap (λ list. listed_behind list membership.user) listed
      ∙ listed-more (cut_at comma text) membership.user added.some
      ∙ ap print_names (sym added.behind)
