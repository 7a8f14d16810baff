-- The call that a keeper makes next on its way over the tables that differ (docs/ARCHITECTURE.md, "The
-- commit").
use Rattle.std.specs.Prelude.{nat_lt, if◌then◌else◌}
use Rattle.acct_outside.specs.declared.Name.TheVariants.{Intent, IntentStage}
use Rattle.acct_outside.specs.Calls.{Call, appends, removes, renames, writes}
use Rattle.intent_file.specs.Intent.{NewTable}
use Rattle.suite_rules.specs.Deeds.{SuiteDeeds}
use Rattle.suite_rules.specs.Standing.{Standing}
use Rattle.suite_rules.specs.Outcomes.{pieces_left}
use Rattle.lock_steps.specs.NextCall.{next_or}
use Rattle.commit_steps.specs.Outcomes.{backs_up_more, backup_call, installs_more, install_call}
use Rattle.commit_steps.specs.Stands.{HasStagedIntent, IsDeed}
use Rattle.commit_steps.specs.States.{Stager, Walker, intent_left, intent_piece, next_table, old_bytes}

-- it appends the next piece of the table's old bytes; where none is left it goes one step
abbrev pub backs_up_table : Walker → NewTable → Call
backs_up_table walker next =
    if nat_lt 0 (pieces_left walker.staged (old_bytes walker.change next.table))
    then backs_up_more walker next
    else backup_call walker next

-- it goes on with the next backup, and once all are moved it stages the first piece of the intent
abbrev pub backing_call : Walker → Call
backing_call walker = next_or (writes IntentStage (intent_piece 0 walker.change))
    (backs_up_table walker) (next_table walker)

-- it appends the next piece of the intent; where none is left it commits
abbrev pub committing_call : Stager → Call
committing_call stager = if nat_lt 0 (intent_left stager)
    then appends IntentStage (intent_piece stager.staged stager.change)
    else renames IntentStage Intent

-- it appends the next piece of the table's new bytes; where none is left it goes one step
abbrev pub installs_table : Walker → NewTable → Call
installs_table walker next = if nat_lt 0 (pieces_left walker.staged next.bytes)
    then installs_more walker next
    else install_call walker next

-- it goes on with the next table, and once all are moved it removes the intent
abbrev pub installing_call : Walker → Call
installing_call walker = next_or (removes Intent) (installs_table walker) (next_table walker)

-- it may commit: it stages the intent, and the new files are the deed of what it was asked
abbrev pub MayCommit : Stager → SuiteDeeds → Standing → Type 0
MayCommit stager deeds stood = HasStagedIntent stager stood × IsDeed deeds stager.change stood
