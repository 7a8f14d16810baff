use Rattle.std.proofs.Common.{◌∙◌, ap, subst}
use Rattle.acct_text.specs.Files.{table_of}
use Rattle.account_model.specs.Usermod.{range_owner}
use Rattle.account_model.specs.UsermodRanges.{meeting_in}
use Rattle.table_edits.specs.Stopping.{StopsBy}
use Rattle.user_changes.specs.Ranges.{id_change, range_table}
use Rattle.user_changes.proofs.meetings.check_meetings.Goals as goal

pub returns : goal.returns
returns c =
    let files = c.args.tables.now in
    let table = range_table c.args.sort in
    let file = table_of files table in
    let ranges = c.in_ok-ranges.ranges in
    let is = c.in_ok-ranges.ensures {u = tt} in
    subst (λ refusal. StopsBy refusal c.check_added.result)
    (ap (λ owner. meeting_in table owner (id_change ranges) file) is.owner
    ∙ ap (λ change. meeting_in table (range_owner c.args.asked.now files) change file) is.change)
    c.check_added.ensures
