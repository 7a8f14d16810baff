-- What a log tells.
use Rattle.std.specs.Prelude.{◌∷◌}
use Rattle.memory_folder.specs.declared.log.Log.{Log}
use Rattle.acct_outside.specs.History.{Event, after}
use Rattle.acct_outside.specs.Folder.{Folder}
use Rattle.acct_outside.specs.Moment.{Past}
use Rattle.memory_folder.specs.Stored.{folder_in}
use Rattle.memory_folder.specs.Events.{history_of}

-- the first folder and the history of a log
abbrev pub past_in : Log → Past
past_in log = record { first = folder_in log.first; history = history_of log.events.items }

-- the past with one event more
abbrev pub with_event : Event → Past → Past
with_event e past = record { first = past.first; history = e ∷ past.history }

-- what stands after the past
abbrev pub folder_after : Past → Folder
folder_after past = after past.first past.history
