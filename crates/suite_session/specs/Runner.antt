-- What a session is asked, and the session that has begun with it.
use Rattle.std.specs.Prelude.{◌≡◌, true, ℕ, ◌≤◌, List, length, Option, Some, None, Ok}
use Rattle.acct_text.specs.Bytes.{Bytes}
use Rattle.acct_text.specs.Limits.{last_day, table_limit}
use Rattle.acct_outside.specs.Tokens.{Token}
use Rattle.acct_outside.specs.Calls.{Command}
use Rattle.account_model.specs.declared.tool.Tool.{Tool}
use Rattle.account_model.specs.BatchLines.{FaultyLine, first_faulty}
use Rattle.account_model.specs.Request.{Request}
use Rattle.account_model.specs.Words.{Asks, is_batch, request_of}

-- what a session is asked: its words, input and day, and the request of the words
pub record Question : Type 0 where
  pub command : Command
  pub request : Request

-- each line of a batch's input that isn't skipped asks for something
abbrev pub LinesAsk : Tool → Bytes → Type 0
LinesAsk tool input = is_batch tool ≡ true → first_faulty input ≡ None

-- this is the first line of a batch's input that isn't skipped and asks for nothing; or each asks
abbrev pub FindsFaulty : Tool → Bytes → Option FaultyLine → Type 0
FindsFaulty tool input None = LinesAsk tool input
FindsFaulty tool input (Some faulty) =
    (is_batch tool ≡ true) × (first_faulty input ≡ Some faulty)

-- the words ask for the request and so do the lines of a batch, the input is within its limit, and the
-- day has a date
pub record IsPosed (asked : Question) : Type 0 where
  pub asks : Asks asked.command.words asked.request
  pub lines_ask : LinesAsk asked.request.tool asked.command.input
  pub within : length asked.command.input ≤ table_limit
  pub in_time : asked.command.day ≤ last_day

-- what was asked is read of its words, and each line of a batch's input that isn't skipped asks for
-- something, so that its deed is what its answer changes
pub record IsRead (asked : Question) : Type 0 where
  pub request : request_of asked.command.words ≡ Ok asked.request
  pub lines_ask : LinesAsk asked.request.tool asked.command.input

-- the question that a command asks with this input on this day
abbrev pub question : List Bytes → Request → Bytes → ℕ → Question
question words request input day = record {
  command = record { words = words; input = input; day = day };
  request = request;
}

-- a session that has begun: the token that its begin gave, and what it was asked
pub record Runner : Type 0 where
  pub token : Token
  pub asked : Question
