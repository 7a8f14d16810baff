-- The lines of a batch, and what they ask for. A line without words, which is empty or has nothing but
-- blanks and a comment, is skipped. The form is this profile's own.
use Rattle.std.specs.Prelude.{ℕ, List, [], ◌∷◌, map, filter_map, Option, None, Some, Result, Ok, Err}
use Rattle.std.specs.List.{enumerate_from}
use Rattle.acct_text.specs.Lines.{Line, lines_of}
use Rattle.account_model.specs.Text.{first_some}
use Rattle.account_model.specs.declared.word_fault.WordFault.{WordFault}
use Rattle.account_model.specs.LineWords.{split_line}
use Rattle.account_model.specs.Options.{Word}
use Rattle.account_model.specs.Request.{Request}
use Rattle.account_model.specs.Words.{request_as}
use Rattle.account_model.specs.declared.words_of.WordsOf.TheVariants.{Line as OfLine}

-- what a line asks for, behind its number, counted from 1
pub record LineRequest : Type 0 where
  pub number : ℕ
  pub request : Request

-- a line that asks for nothing: its number, its words, of which one that can't be split has none, and
-- its first fault
pub record FaultyLine : Type 0 where
  pub number : ℕ
  pub words : List Word
  pub fault : WordFault

-- a line that isn't skipped: what it asks for, or that it asks for nothing
abbrev pub BatchLine : Type 0
BatchLine = Result LineRequest FaultyLine

-- a line of this number by what its words ask for
abbrev pub line_asking : ℕ → List Word → Result Request WordFault → BatchLine
line_asking number words (Ok request) = Ok (record { number = number; request = request })
line_asking number words (Err fault) =
    Err (record { number = number; words = words; fault = fault })

-- a line of this number by its words, or by its fault; none without words
abbrev pub line_with : ℕ → Result (List Word) WordFault → Option BatchLine
line_with number (Err fault) = Some (line_asking number [] (Err fault))
line_with number (Ok []) = None
line_with number (Ok (word ∷ words)) =
    Some (line_asking number (word ∷ words) (request_as OfLine (word ∷ words)))

-- a line of the input, behind its number
abbrev pub line_numbered : ℕ × Line → Option BatchLine
line_numbered (number, line) = line_with number (split_line line.text)

-- the lines of an input that aren't skipped; those that are count in the numbers
abbrev pub batch_lines : List ℕ → List BatchLine
batch_lines input = filter_map line_numbered (enumerate_from 1 (lines_of input))

-- the line, where it asks for nothing
abbrev pub faulty_line : BatchLine → Option FaultyLine
faulty_line (Ok line) = None
faulty_line (Err line) = Some line

-- the first line of the input that isn't skipped and asks for nothing
abbrev pub first_faulty : List ℕ → Option FaultyLine
first_faulty input = first_some (map faulty_line (batch_lines input))

-- what the line asks for, where it asks for something
abbrev pub asked_by : BatchLine → Option LineRequest
asked_by (Ok line) = Some line
asked_by (Err line) = None

-- what the lines of the input ask for, one after another: a batch runs where none of them is faulty,
-- and then these are all that aren't skipped
abbrev pub line_requests : List ℕ → List LineRequest
line_requests input = filter_map asked_by (batch_lines input)
