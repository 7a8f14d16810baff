-- How many calls a state has left at most, so that each turn brings a session nearer to its answer: its
-- appends, and its other calls. Until a second listing nobody knows how many lower locks there are: as
-- many as a listing can show.
use Rattle.std.specs.Prelude.{ℕ, ◌+◌, ◌-◌, ◌*◌, nat_lt, Bool, true, false, if◌then◌else◌, List, [], ◌∷◌, length, map, Option, Some, None}
use Rattle.acct_text.specs.declared.Tab.{Tab}
use Rattle.acct_text.specs.Bytes.{Bytes}
use Rattle.acct_text.specs.Tables.{table_place}
use Rattle.acct_outside.specs.Calls.{Call, appends}
use Rattle.acct_outside.specs.Pieces.{piece_count}
use Rattle.intent_file.specs.Intent.{NewTable}
use Rattle.lock_steps.specs.States.{Kept}
use Rattle.lock_steps.specs.Watching.{gathering_left}
use Rattle.commit_steps.specs.States.{Change, changed, intent_left, old_bytes, steps_left, tables_left}
use Rattle.suite_session.specs.declared.state.State.{State}
use Rattle.suite_session.specs.declared.state.State.TheVariants.{Looking, Reading, Asking, Claiming, Confirming, Withdrawing, ReadingIntent, Recovering, Moving, Loading, BackingUp, Committing, Installing, Unlocking, Freeing, Watching, Gathering, Answering}

-- the reads that are left: the tables from the next on, and login.defs
abbrev pub reads_left : Option Tab → ℕ
reads_left None = 1
reads_left (Some table) = 7 - table_place table

-- the calls but appends that a session makes at most, its begin and its answer among them; each lower
-- lock that it has to remove is one more
abbrev pub most_calls : ℕ
most_calls = 57

-- the calls but appends on six tables: the first piece of each is staged, and all are moved
abbrev pub table_calls : ℕ
table_calls = 12

-- those of a keeper on its way out: it removes the lower locks, stages the free text, moves it to its
-- lock, and answers
abbrev pub leaving_calls : Kept → ℕ
leaving_calls keeper = length keeper.lower + 3

-- those from the commit on: it moves the intent, puts the tables in place, and removes the intent
abbrev pub commit_calls : Kept → ℕ
commit_calls keeper = 1 + table_calls + 1 + leaving_calls keeper

-- those of a change: it backs up the tables, stages the intent, and commits
abbrev pub change_calls : Kept → ℕ
change_calls keeper = table_calls + 1 + commit_calls keeper

-- those after its read of the intent: it reads the six tables and login.defs, and makes a change
abbrev pub loading_calls : Kept → ℕ
loading_calls keeper = 7 + change_calls keeper

-- those of a report that has judged the greatest lock: it reads the intent, six tables and login.defs,
-- lists the locks again, and answers
abbrev pub watching_calls : ℕ
watching_calls = 10

-- the most lower locks that a listing can show
abbrev pub most_lower : ℕ
most_lower = 18446744073709551615

-- the calls but appends that a state has left at most, with the answer
abbrev pub calls_left : State → ℕ
calls_left (Looking looking) = 56 + most_lower
calls_left (Reading seen) = 55 + most_lower
calls_left (Asking asking) = 54 + most_lower
calls_left (Claiming judged) = 53 + most_lower
calls_left (Confirming claimed) = 52 + most_lower
calls_left (Withdrawing loser) = 2
calls_left (ReadingIntent keeper) = 1 + table_calls + 1 + loading_calls keeper
calls_left (Recovering recovering) =
    2 * length recovering.left + 1 + loading_calls recovering.keeper
calls_left (Moving moving) = 2 * length moving.left + loading_calls moving.keeper
calls_left (Loading reader) = reads_left reader.next + change_calls reader.keeper
calls_left (BackingUp walker answer) =
    steps_left walker + 1 + commit_calls walker.change.inputs.keeper
calls_left (Committing stager answer) = commit_calls stager.change.inputs.keeper
calls_left (Installing walker answer) =
    steps_left walker + 1 + leaving_calls walker.change.inputs.keeper
calls_left (Unlocking keeper answer) = leaving_calls keeper
calls_left (Freeing freeing answer) = 2
calls_left (Watching watcher) = watching_calls
calls_left (Gathering reading) = gathering_left reading + 2
calls_left (Answering answer) = 1

-- ---- The appends

-- the call is an append
abbrev pub is_append : Call → Bool
is_append (appends name piece) = true
is_append call = false

-- the appends of six tables: each has 256 pieces at most, of which the first is written
abbrev pub table_appends : ℕ
table_appends = 1530

-- those of the intent of six tables: one piece for the line in front of each and one for the end, of
-- which the first is written, and those of the tables
abbrev pub intent_appends : ℕ
intent_appends = 1542

-- those of a change: its tables are backed up, its intent is staged, and its tables are put in place
abbrev pub change_appends : ℕ
change_appends = table_appends + intent_appends + table_appends

-- the appends that a session makes at most: also a standing intent is carried out
abbrev pub most_appends : ℕ
most_appends = table_appends + change_appends

-- the appends of a text of which so many first pieces are staged: one for each further piece
abbrev pub text_appends : ℕ → Bytes → ℕ
text_appends staged text = piece_count text - (if nat_lt 0 staged then staged else 1)

-- the appends of these texts, where so many first pieces of the first are staged
abbrev pub texts_appends : ℕ → List Bytes → ℕ
texts_appends staged [] = 0
texts_appends staged (text ∷ texts) = text_appends staged text + texts_appends 0 texts

-- the new bytes of these tables
abbrev pub new_texts : List NewTable → List Bytes
new_texts tables = map (λ new. new.bytes) tables

-- the bytes that these tables had
abbrev pub old_texts : Change → List NewTable → List Bytes
old_texts change tables = map (λ new. old_bytes change new.table) tables

-- those of an installation that is still to come
abbrev pub install_appends : Change → ℕ
install_appends change = texts_appends 0 (new_texts (changed change))

-- the appends that a state has left at most
abbrev pub appends_left : State → ℕ
appends_left (Withdrawing loser) = 0
appends_left (Recovering recovering) =
    texts_appends 0 (new_texts recovering.left) + change_appends
appends_left (Moving moving) =
    texts_appends moving.staged (new_texts moving.left) + change_appends
appends_left (Loading reader) = change_appends
appends_left (BackingUp walker answer) =
    texts_appends walker.staged (old_texts walker.change (tables_left walker))
    + (intent_left (record { change = walker.change; staged = 1 })
    + install_appends walker.change)
appends_left (Committing stager answer) = intent_left stager + install_appends stager.change
appends_left (Installing walker answer) =
    texts_appends walker.staged (new_texts (tables_left walker))
appends_left (Unlocking keeper answer) = 0
appends_left (Freeing freeing answer) = 0
appends_left (Watching watcher) = 0
appends_left (Gathering reading) = 0
appends_left (Answering answer) = 0
appends_left state = most_appends
