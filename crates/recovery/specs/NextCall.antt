-- The call that a recovery makes next (docs/ARCHITECTURE.md, "The commit").
use Rattle.std.specs.Prelude.{nat_lt, if◌then◌else◌, slice_get}
use Rattle.acct_outside.specs.declared.Name.TheVariants.{Intent}
use Rattle.acct_outside.specs.Calls.{Call, removes}
use Rattle.intent_file.specs.Intent.{NewTable}
use Rattle.suite_rules.specs.Outcomes.{installs, stages, stages_more, pieces_left}
use Rattle.lock_steps.specs.NextCall.{next_or}
use Rattle.recovery.specs.States.{Recoverer, Mover}

-- it stages the first table that is left, and once none is left it removes the intent
abbrev pub recovering_call : Recoverer → Call
recovering_call recovering = next_or (removes Intent) stages (slice_get recovering.left 0)

-- it appends the next piece of the table's bytes, and once none is left it moves them to their table
abbrev pub moves_table : Mover → NewTable → Call
moves_table moving next = if nat_lt 0 (pieces_left moving.staged next.bytes)
    then stages_more moving.staged next
    else installs next

-- the next call for the first of the tables that are left
abbrev pub moving_call : Mover → Call
moving_call moving = next_or (removes Intent) (moves_table moving) (slice_get moving.left 0)
