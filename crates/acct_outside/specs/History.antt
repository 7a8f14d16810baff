-- Histories of a folder: its events, and the folder after them.
use Rattle.std.specs.Prelude.{Bool, List, [], ◌∷◌, filter, bytes_eq}
use Rattle.acct_outside.specs.Tokens.{Token}
use Rattle.acct_outside.specs.Folder.{Folder}
use Rattle.acct_outside.specs.Calls.{Call, Answer, CallResult, effect_of, changed_by}

-- one call of one session. The token of a begin is the one that it gave, empty where it failed or
-- its session died in it
pub record Event : Type 0 where
  pub token : Token
  pub call : Call
  pub result : CallResult (Answer call)

-- the events of a folder since its first moment, the newest first
abbrev pub History : Type 0
History = List Event

-- the folder after the event
abbrev pub after_event : Event → Folder → Folder
after_event e folder = changed_by e.token e.call (effect_of e.call e.result) folder

-- the folder after the history, which began with this first folder
abbrev pub after : Folder → History → Folder
after first [] = first
after first (e ∷ history) = after_event e (after first history)

-- the event is the session's
abbrev pub is_of : Token → Event → Bool
is_of token e = bytes_eq e.token token

-- the session's own events
abbrev pub own_events : Token → History → History
own_events token history = filter (is_of token) history
