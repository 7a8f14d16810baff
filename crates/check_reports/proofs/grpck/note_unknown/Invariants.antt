use Rattle.std.proofs.Common.{◌≡◌, ◌++◌, length}
use Rattle.acct_text.specs.Pieces.{cut_at}
use Rattle.account_model.specs.Records.{read_names}
use Rattle.account_model.specs.Text.{comma, nonempty}
use Rattle.check_reports.specs.Seen.{users_seen, unknown_problems}
use Rattle.check_reports.proofs.grpck.note_unknown.Given as goal

-- the problems so far and those of the rest are those of all users of the list
abbrev pub invariant-users : goal.invariant-users
invariant-users l =
    let of = unknown_problems l.listing l.group (users_seen l.known) in
    l.problems ++ of (nonempty (cut_at comma l.rest))
    ≡ l.initial.problems ++ of (read_names l.users)

abbrev pub decreases-users : goal.decreases-users
decreases-users l = length l.rest
