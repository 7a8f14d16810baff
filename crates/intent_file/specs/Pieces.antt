-- The pieces in which an intent's text is written: the lines around its tables, and between them the
-- bytes of each table, cut as the text of a table is.
use Rattle.std.specs.Prelude.{◌≡◌, ◌≤◌, List, [], ◌∷◌, ◌++◌, length, All, codes, decimal}
use Rattle.std.specs.List.{concat, flat_map}
use Rattle.acct_text.specs.Bytes.{Bytes}
use Rattle.acct_text.specs.Tables.{table_name}
use Rattle.acct_outside.specs.Pieces.{piece_limit, pieces_of}
use Rattle.intent_file.specs.Intent.{NewTable, Intended, header_of, end_part, intent_text}

-- `NAME LENGTH` on a line, in front of the bytes of a table
abbrev pub table_line : NewTable → Bytes
table_line new =
    table_name new.table ++ (codes " " ++ (decimal (length new.bytes) ++ codes "\n"))

-- the texts around the bytes of the tables, where this stands in front of the first line: each leads
-- to the bytes of a table, and the last is the end
abbrev pub lines_around : Bytes → List NewTable → List Bytes
lines_around before [] = (before ++ end_part) ∷ []
lines_around before (new ∷ news) = (before ++ table_line new) ∷ lines_around (codes "\n") news

-- those of an intent
abbrev pub intent_lines : Intended → List Bytes
intent_lines intent =
    lines_around (header_of intent.version intent.number intent.tables) intent.tables

-- each line, and the bytes of the table to which it leads
abbrev pub in_turn : List Bytes → List NewTable → List Bytes
in_turn [] news = []
in_turn (line ∷ lines) [] = line ∷ lines
in_turn (line ∷ lines) (new ∷ news) = line ∷ new.bytes ∷ in_turn lines news

-- the pieces of an intent's text, in order
abbrev pub intent_pieces : Intended → List Bytes
intent_pieces intent = flat_map pieces_of (in_turn (intent_lines intent) intent.tables)

-- One behind the other the pieces are the text of the intent, and none has more than 65,536 bytes.
pub record IntentInPieces : Type 0 where
  pub joined : (intent : Intended) → concat (intent_pieces intent) ≡ intent_text intent
  pub small : (intent : Intended) →
      All (λ piece. length piece ≤ piece_limit) (intent_pieces intent)
