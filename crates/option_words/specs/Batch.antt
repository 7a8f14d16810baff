-- The lines of a batch from any line on, as they are read.
use Rattle.std.specs.Prelude.{◌≡◌, ℕ, true, List, filter_map, Ok, Err, ⊤}
use Rattle.std.specs.List.{enumerate_from}
use Rattle.acct_text.specs.Lines.{lines_of}
use Rattle.account_model.specs.BatchLines.{BatchLine, LineRequest, asked_by, line_numbered}
use Rattle.account_model.specs.Words.{is_for_lines}

-- the lines of a text that aren't skipped, of which the first of all has this number
abbrev pub lines_from : ℕ → List ℕ → List BatchLine
lines_from number text = filter_map line_numbered (enumerate_from number (lines_of text))

-- what lines ask for, of those that ask for something
abbrev pub requests_of : List BatchLine → List LineRequest
requests_of lines = filter_map asked_by lines

-- the line asks for nothing, or a tool that a line may name
abbrev pub IsForLines : BatchLine → Type 0
IsForLines (Ok line) = is_for_lines line.request.tool ≡ true
IsForLines (Err line) = ⊤
