-- The standing of a session: all that its own events tell, in seven parts. Each part has its own
-- step; the events of other sessions change none.
use Rattle.std.specs.Prelude.{if◌then◌else◌, [], ◌∷◌, Option, Some, None}
use Rattle.acct_text.specs.Bytes.{Bytes}
use Rattle.acct_outside.specs.declared.Name.{Name}
use Rattle.acct_outside.specs.declared.Name.TheVariants.{Intent, IntentStage}
use Rattle.acct_outside.specs.Names.{same_name, is_staging}
use Rattle.acct_outside.specs.Tokens.{Token}
use Rattle.acct_outside.specs.Folder.{with_piece}
use Rattle.acct_outside.specs.Calls.{Command, Call, Answer, CallResult, begins, writes, appends, renames, done}
use Rattle.acct_outside.specs.History.{History, is_of}
use Rattle.acct_outside.specs.declared.CommitStage.{CommitStage}
use Rattle.acct_outside.specs.declared.CommitStage.TheVariants.{Before, Unsure, Committed}
use Rattle.suite_rules.specs.OwnLock.{OwnLock, lock_uncalled, is_keeper, own_step}
use Rattle.suite_rules.specs.Listing.{Listing, listing_step}
use Rattle.suite_rules.specs.Shown.{Shown, shown_step}
use Rattle.suite_rules.specs.Knowledge.{Stages, Knowledge, knows_nothing, knows_step}

-- the standing of a session
pub record Standing : Type 0 where
  -- what its begin was given
  pub command : Option Command
  -- its last listing of the locks, none before its first
  pub listing : Option Listing
  -- what its last two listings confirmed, without a lock of its own
  pub shown : Option Shown
  -- how far it is with its own lock
  pub own : OwnLock
  -- what it knows of the intent, by its events as keeper alone
  pub knows : Knowledge
  -- the bytes of its last done write as keeper at each staging name that it hasn't moved since, with
  -- those of its done appends there behind them
  pub staged : Stages
  -- how far it is with its commit, the rename of the staged intent to the intent: before its call,
  -- unsure after one that wasn't done, or committed
  pub commit : CommitStage

-- nothing is staged
abbrev pub nothing_staged : Stages
nothing_staged name = None

-- before its first event
abbrev pub no_standing : Standing
no_standing = record {
  command = None;
  listing = None;
  shown = None;
  own = lock_uncalled;
  knows = knows_nothing;
  staged = nothing_staged;
  commit = Before;
}

-- the command after one of its calls
abbrev pub command_step : (call : Call) → CallResult (Answer call) → Option Command → Option Command
command_step (begins command) (done answer) given = Some command
command_step _ _ given = given

-- what is staged, with this at one name
abbrev pub staged_with : Name → Option Bytes → Stages → Stages
staged_with name content staged other = if same_name other name then content else staged other

-- what a keeper has staged after one of its calls; a move takes what is staged away, done or not
abbrev pub staged_step : (call : Call) → CallResult (Answer call) → Stages → Stages
staged_step (writes name bytes) (done answer) staged =
    if is_staging name then staged_with name (Some bytes) staged else staged
staged_step (appends name piece) (done answer) staged =
    if is_staging name then staged_with name (with_piece piece (staged name)) staged else staged
staged_step (renames from to) result staged = staged_with from None staged
staged_step _ _ staged = staged

-- the commit was called without an answer; one that was done stays so
abbrev pub calls_commit : CommitStage → CommitStage
calls_commit Committed = Committed
calls_commit _ = Unsure

-- how far it is with its commit after one of its calls
abbrev pub commit_step : (call : Call) → CallResult (Answer call) → CommitStage → CommitStage
commit_step (renames IntentStage Intent) (done answer) commit = Committed
commit_step (renames IntentStage Intent) result commit = calls_commit commit
commit_step _ _ commit = commit

-- a part that a keeper alone changes, after an event between two states of its lock: as it begins
-- where the session becomes keeper, changed where it was keeper, and else as it was
abbrev pub keeper_part : {A : Type 0} → OwnLock → OwnLock → A → A → A → A
keeper_part before later begun changed same =
    if is_keeper before then changed else (if is_keeper later then begun else same)

-- the standing after one of the session's calls
abbrev pub standing_step : (call : Call) → CallResult (Answer call) → Standing → Standing
standing_step call result standing =
    let own = own_step call result standing.own in
    record {
      command = command_step call result standing.command;
      listing = listing_step standing.own call result standing.listing;
      shown = shown_step standing.own standing.listing call result standing.shown;
      own = own;
      knows = keeper_part standing.own own
          knows_nothing (knows_step standing.staged call result standing.knows) standing.knows;
      staged = keeper_part standing.own own
          nothing_staged (staged_step call result standing.staged) standing.staged;
      commit = commit_step call result standing.commit;
    }

-- the standing of a session after a history
abbrev pub standing : Token → History → Standing
standing token [] = no_standing
standing token (event ∷ history) =
    if is_of token event
    then standing_step event.call event.result (standing token history)
    else standing token history
