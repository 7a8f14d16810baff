-- What the tools do with a command on the six files and login.defs: their deed, and whether they
-- answer with status 0 and no change (account_model/specs/Answer). Words that ask for nothing do
-- nothing.
use Rattle.std.specs.Prelude.{◌≡◌, Bool, true, false, not, ◌&&◌, ◌==◌, Option, None, option_map, Ok, Err}
use Rattle.acct_text.specs.declared.Tab.TheVariants.{Passwd, Shadow, Group, Gshadow, Subuid, Subgid}
use Rattle.acct_text.specs.declared.files.Files.{Files}
use Rattle.acct_text.specs.Bytes.{Bytes}
use Rattle.acct_text.specs.Contents.{Contents}
use Rattle.acct_text.specs.Files.{table_of}
use Rattle.acct_outside.specs.Calls.{Command}
use Rattle.account_model.specs.Answer.{AnswerCause, Changed, Answer, answer, deed, is_faulty_batch}
use Rattle.account_model.specs.SeenFiles.{seen_files}
use Rattle.account_model.specs.Words.{request_of}
use Rattle.suite_rules.specs.Deeds.{SuiteDeeds}

-- the files of these contents
abbrev pub files_of : Contents → Files
files_of contents = record {
  passwd = contents Passwd;
  shadow = contents Shadow;
  group = contents Group;
  gshadow = contents Gshadow;
  subuid = contents Subuid;
  subgid = contents Subgid;
}

-- the new contents that the command makes, where its answer is a change
abbrev pub tools_deed : Command → Contents → Option Bytes → Option Contents
tools_deed command contents defs = elim (request_of command.words) [
  | Err fault ↦ None
  | Ok request ↦ option_map table_of
      (deed request command.input command.day (files_of contents) defs)
]

-- the cause is a change
abbrev pub is_change : AnswerCause → Bool
is_change (Changed files) = true
is_change cause = false

-- the answer has status 0 and changes nothing
abbrev pub is_unchanging : Answer → Bool
is_unchanging given = (given.status == 0) && not (is_change given.cause)

-- the command's answer has status 0 and changes nothing, and no line of a batch is faulty
abbrev pub tools_answer_same : Command → Contents → Option Bytes → Bool
tools_answer_same command contents defs = elim (request_of command.words) [
  | Err fault ↦ false
  | Ok request ↦ not (is_faulty_batch request command.input)
      && is_unchanging (answer request command.input command.day (files_of contents) defs)
]

-- so does the command's answer on what it sees of them as a report
abbrev pub tools_shows_same : Command → Contents → Option Bytes → Bool
tools_shows_same command contents defs = elim (request_of command.words) [
  | Err fault ↦ false
  | Ok request ↦ not (is_faulty_batch request command.input)
      && is_unchanging (answer request command.input command.day
      (seen_files request (files_of contents)) defs)
]

-- these deeds are those of the tools
pub record AreOfTools (deeds : SuiteDeeds) : Type 0 where
  pub is_deed : deeds.deed ≡ tools_deed
  pub is_same : deeds.answers_same ≡ tools_answer_same
  pub is_shown : deeds.shows_same ≡ tools_shows_same
