-- What the account model makes of the commands of a rehearsal, one after another: each answers on the
-- tables that the one before left, with no input, on one day and without login.defs.
use Rattle.std.specs.Prelude.{ℕ, zero, suc, ◌+◌, if◌then◌else◌, List, [], Some, None, unwrap_or, Result, Ok, Err}
use Rattle.acct_text.specs.declared.files.Files.{Files}
use Rattle.account_model.specs.declared.word_fault.WordFault.{WordFault}
use Rattle.account_model.specs.Answer.{AnswerCause, answer, new_files}
use Rattle.account_model.specs.Options.{Word}
use Rattle.account_model.specs.Request.{Request}
use Rattle.account_model.specs.Words.{request_of}
use Rattle.suite_session.specs.Deeds.{is_change}
use Rattle.rehearsal.specs.declared.course.Reached.{Reached}
use Rattle.rehearsal.specs.Commands.{command_at, words_of}

-- the day of each command
abbrev pub rehearsal_day : ℕ
rehearsal_day = 20000

-- six empty tables
abbrev pub empty_files : Files
empty_files = record {
  passwd = Some [];
  shadow = Some [];
  group = Some [];
  gshadow = Some [];
  subuid = Some [];
  subgid = Some [];
}

-- before the first command: all six tables are empty, and nothing has changed
abbrev pub beginning : Reached
beginning = record { files = empty_files; changed = 0 }

-- an answer leaves its new files, where it is a change, and the change counts
abbrev pub after_answer : AnswerCause → Reached → Reached
after_answer cause was = record {
  files = unwrap_or (new_files cause) was.files;
  changed = if is_change cause then was.changed + 1 else was.changed;
}

-- a request leaves what its answer leaves; words that ask for nothing leave all as it was
abbrev pub after_read : Result Request WordFault → Reached → Reached
after_read (Ok request) was =
    after_answer (answer request [] rehearsal_day was.files None).cause was
after_read (Err fault) was = was

-- words leave what their request leaves
abbrev pub after_words : List Word → Reached → Reached
after_words words was = after_read (request_of words) was

-- after so many commands
abbrev pub reached : ℕ → ℕ → Reached
reached seed zero = beginning
reached seed (suc place) = after_words (words_of (command_at seed place)) (reached seed place)
