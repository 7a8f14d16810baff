-- The lines that committed commands leave: their edits are those of their deeds, one command after another, and a line of
-- the first settled files that none of these touches stays byte for byte; so does each line that no command names.
use Rattle.std.specs.Prelude.{◌≡◌, ◌≤◌, false, List, [], ◌∷◌, ◌++◌, Option, Some, None, Ok, Err}
use Rattle.std.specs.List.{AllByRecursion}
use Rattle.acct_text.specs.Bytes.{Bytes}
use Rattle.acct_text.specs.declared.files.Files.{Files}
use Rattle.acct_outside.specs.Calls.{Command}
use Rattle.acct_outside.specs.Folder.{Folder, settings_file}
use Rattle.acct_outside.specs.History.{History, after}
use Rattle.account_model.specs.Answer.{deed}
use Rattle.account_model.specs.DeedLines.{IsByEdits, KeepOrder, edits_of_deed, is_sort, then_edits}
use Rattle.account_model.specs.Records.{greatest_days}
use Rattle.account_model.specs.Request.{Request}
use Rattle.account_model.specs.NamedLines.{LeaveUnnamed, Named, named_by_both, named_by_deed, names_nothing}
use Rattle.account_model.specs.Tables.{Script, files_after, no_edits}
use Rattle.account_model.specs.Words.{Asks, request_of}
use Rattle.suite_rules.specs.Deeds.{SuiteDeeds}
use Rattle.suite_rules.specs.Lawful.{Lawful}
use Rattle.suite_rules.specs.Settled.{settled}
use Rattle.suite_rules.specs.Committed.{Commitment, committed, folded}
use Rattle.suite_session.specs.Deeds.{AreOfTools, files_of}

-- the edits of what a command makes, where it makes something
abbrev pub edits_where_made : Option Files → Script → Script
edits_where_made None edits = no_edits
edits_where_made (Some new) edits = edits

-- the edits of a request's deed; without a deed there are none
abbrev pub edits_of_request : Request → Command → Files → Option Bytes → Script
edits_of_request request command files defs =
    edits_where_made (deed request command.input command.day files defs)
    (edits_of_deed request command.input command.day files defs)

-- the edits of what a command's words ask for
abbrev pub edits_of_command : Command → Files → Option Bytes → Script
edits_of_command command files defs = elim (request_of command.words) [
  | Err fault ↦ no_edits
  | Ok request ↦ edits_of_request request command files defs
]

-- the edits of commands, each on the files that those before it leave
abbrev pub edits_of_commands : Option Bytes → List Commitment → Files → Script
edits_of_commands defs [] files = no_edits
edits_of_commands defs (one ∷ list) files =
    then_edits (edits_of_command one.command files defs) files (edits_of_commands defs list)

-- ---- What they name

-- what a request names, where it has a deed
abbrev pub names_where_made : Option Files → Named → Named
names_where_made None named = names_nothing
names_where_made (Some new) named = named

-- what a request's deed names; without a deed nothing is named
abbrev pub named_by_request : Request → Command → Files → Option Bytes → Named
named_by_request request command files defs =
    names_where_made (deed request command.input command.day files defs)
    (named_by_deed request command.input command.day files defs)

-- what a command names
abbrev pub named_by_command : Command → Files → Option Bytes → Named
named_by_command command files defs = elim (request_of command.words) [
  | Err fault ↦ names_nothing
  | Ok request ↦ named_by_request request command files defs
]

-- what commands name, each on the files that those before it leave
abbrev pub named_by_commands : Option Bytes → List Commitment → Files → Named
named_by_commands defs [] files = names_nothing
named_by_commands defs (one ∷ list) files =
    named_by_both (named_by_command one.command files defs)
    (named_by_commands defs list (files_after (edits_of_command one.command files defs) files))

-- ---- The law

-- the commands were asked on days that shadow(5) holds
abbrev pub AreInTime : List Commitment → Type 0
AreInTime commands = AllByRecursion (λ one. one.command.day ≤ greatest_days) commands

-- the command doesn't sort (pwck(8) and grpck(8), `-s`)
abbrev pub SortsNothing : Commitment → Type 0
SortsNothing one =
    (request : Request) → Asks one.command.words request → is_sort request ≡ false

-- the commands make the new files of the old ones by their edits, and leave the lines that these don't touch, and those
-- that they don't name; in their order, where none of them sorts
pub record AreByCommands (defs : Option Bytes) (commands : List Commitment) (old new : Files)
    : Type 0 where
  pub untouched : IsByEdits (edits_of_commands defs commands old) old new
  pub unnamed : LeaveUnnamed (named_by_commands defs commands old)
      (edits_of_commands defs commands old) old new
  pub order : AllByRecursion SortsNothing commands
      → KeepOrder (edits_of_commands defs commands old)

-- After each front of the committed list the files are what its commands make of the first settled files. So in a lawful
-- history it is with the settled files, at each moment and after each death.
pub record UntouchedLinesStay : Type 0 where
  pub after_front : (deeds : SuiteDeeds) → AreOfTools deeds → (first : Folder) (history : History)
      (front later : List Commitment) → committed history ≡ front ++ later → AreInTime front
      → AreByCommands (settings_file first) front (files_of (settled first))
      (files_of (folded deeds first front))
  pub at_present : (deeds : SuiteDeeds) → AreOfTools deeds → (first : Folder) (history : History)
      → Lawful deeds first history → AreInTime (committed history)
      → AreByCommands (settings_file first) (committed history) (files_of (settled first))
      (files_of (settled (after first history)))
