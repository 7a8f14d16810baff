use Rattle.std.proofs.Common.{◌≡◌, [], take}
use Rattle.acct_outside.specs.History.{own_events}
use Rattle.memory_folder.specs.Events.{history_of}
use Rattle.memory_folder.proofs.log.Log.knows.Given as goal

abbrev pub invariant-loop-event : goal.invariant-loop-event
invariant-loop-event l =
    own_events l.token (history_of (take l.event-index l.event-items)) ≡ []
