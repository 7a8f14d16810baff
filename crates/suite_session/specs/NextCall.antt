-- Which call of the folder a session makes next (docs/ARCHITECTURE.md, "The session").
use Rattle.std.specs.Prelude.{◌≡◌, ⊤, ◌+◌, ◌<◌, Option, Some, None, option_map}
use Rattle.acct_outside.specs.declared.Call.{Call as FolderCall}
use Rattle.acct_outside.specs.declared.Call.TheVariants.{Begin}
use Rattle.acct_outside.specs.declared.Name.TheVariants.{FreeStage, Intent, Lock}
use Rattle.acct_outside.specs.Calls.{Call, answers, asks, begins, creates, lists, reads, removes, renames}
use Rattle.acct_outside.specs.NamedCalls.{call_of}
use Rattle.suite_rules.specs.Deeds.{SuiteDeeds}
use Rattle.suite_rules.specs.Standing.{Standing}
use Rattle.suite_rules.specs.Rules.{AnswerRule}
use Rattle.lock_steps.specs.NextCall.{unlocking_call}
use Rattle.lock_steps.specs.Watching.{HasGathered, gathering_call}
use Rattle.lock_steps.specs.Stands.{HasJudged, HasLooked, HasMade, HasNoLock, HasReadHeld, HasStagedFree, Keeps, KnowsAnything, WasOvertaken}
use Rattle.recovery.specs.NextCall.{moving_call, recovering_call}
use Rattle.recovery.specs.Stands.{HasStagedNext, Recovers}
use Rattle.commit_steps.specs.NextCall.{MayCommit, backing_call, committing_call, installing_call}
use Rattle.commit_steps.specs.Stands.{BacksUp, HasRead, Installs}
use Rattle.commit_steps.specs.States.{next_name}
use Rattle.suite_session.specs.declared.state.State.{State}
use Rattle.suite_session.specs.declared.state.State.TheVariants.{Looking, Reading, Asking, Claiming, Confirming, Withdrawing, ReadingIntent, Recovering, Moving, Loading, BackingUp, Committing, Installing, Unlocking, Freeing, Watching, Gathering, Answering}
use Rattle.suite_session.specs.declared.session.Phase.{Phase}
use Rattle.suite_session.specs.declared.session.Phase.TheVariants.{Waiting, Begun, Over, Unbegun}

-- the call of each state
abbrev pub state_call : State → Call
state_call (Looking looking) = lists
state_call (Reading seen) = reads (Lock seen.greatest)
state_call (Asking asking) = asks asking.asked
state_call (Claiming judged) = creates (judged.greatest + 1)
state_call (Confirming claimed) = lists
state_call (Withdrawing loser) = removes (Lock loser.number)
state_call (ReadingIntent keeper) = reads Intent
state_call (Recovering recovering) = recovering_call recovering
state_call (Moving moving) = moving_call moving
state_call (Loading reader) = reads (next_name reader.next)
state_call (BackingUp walker answer) = backing_call walker
state_call (Committing stager answer) = committing_call stager
state_call (Installing walker answer) = installing_call walker
state_call (Unlocking keeper answer) = unlocking_call keeper
state_call (Freeing freeing answer) = renames FreeStage (Lock freeing.number)
state_call (Watching watcher) = reads Intent
state_call (Gathering reading) = gathering_call reading
state_call (Answering answer) = answers answer.outcome.status

-- a session that stands so is ready for the call of its state: the rules permit it for these deeds
abbrev pub IsReady : State → SuiteDeeds → Standing → Type 0
IsReady (Looking looking) deeds = HasNoLock
IsReady (Reading seen) deeds = HasLooked seen
IsReady (Asking asking) deeds = HasReadHeld asking
IsReady (Claiming judged) deeds = HasJudged judged
IsReady (Confirming claimed) deeds = HasMade claimed
IsReady (Withdrawing loser) deeds = WasOvertaken loser
IsReady (ReadingIntent keeper) deeds = Keeps keeper KnowsAnything
IsReady (Recovering recovering) deeds = Recovers recovering
IsReady (Moving moving) deeds = HasStagedNext moving
IsReady (Loading reader) deeds = HasRead reader
IsReady (BackingUp walker answer) deeds = BacksUp walker
IsReady (Committing stager answer) deeds = MayCommit stager deeds
IsReady (Installing walker answer) deeds = Installs walker
IsReady (Unlocking keeper answer) deeds = Keeps keeper KnowsAnything
IsReady (Freeing freeing answer) deeds = HasStagedFree freeing
IsReady (Watching watcher) deeds = HasJudged watcher
IsReady (Gathering reading) deeds = HasGathered reading
IsReady (Answering answer) deeds = λ stood. AnswerRule deeds stood answer.outcome.status

-- a session that reads a lock has listed one
abbrev pub HasLock : State → Type 0
HasLock (Reading seen) = 0 < seen.greatest
HasLock state = ⊤

-- the call that a session makes next; none once it has answered, and where its begin gave no token
abbrev pub next_call : Phase → Option Call
next_call (Waiting asked) = Some (begins asked.command)
next_call (Begun runner state) = Some (state_call state)
next_call (Over runner answer) = None
next_call (Unbegun tool answer) = None

-- the program's call is that one; of a begin it doesn't say what was asked
abbrev pub NamesNext : Phase → Option FolderCall → Type 0
NamesNext (Waiting asked) named = named ≡ Some Begin
NamesNext session named = option_map call_of named ≡ next_call session
