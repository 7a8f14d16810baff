-- The lines of a file (passwd(5), and likewise the other five tables): it is cut at each newline,
-- and bytes behind the last newline are a line without an end.
use Rattle.std.specs.Prelude.{◌≡◌, ◌↔◌, ◌<◌, Bool, true, false, List, [], ◌∷◌, ◌++◌, length, map, flat_map, if◌then◌else◌, ⊤}
use Rattle.std.specs.List.{AllByRecursion}
use Rattle.acct_text.specs.Bytes.{Bytes, newline, is_empty}
use Rattle.acct_text.specs.Pieces.{cut_at, Lacks}

-- a line of a file: its bytes in front of the newline, and whether there is a newline
pub record Line : Type 0 where
  pub text : Bytes
  pub ended : Bool

-- the bytes of a line, with its newline
abbrev pub line_bytes : Line → Bytes
line_bytes line = line.text ++ (if line.ended then newline ∷ [] else [])

-- the bytes of a file of these lines, one behind the other
abbrev pub file_bytes : List Line → Bytes
file_bytes lines = flat_map line_bytes lines

-- the texts of lines, without their newlines
abbrev pub texts_of : List Line → List Bytes
texts_of lines = map (λ line. line.text) lines

-- each line but the last has a newline, and a last one without a newline isn't empty
abbrev pub AreEnded : List Line → Type 0
AreEnded [] = ⊤
AreEnded (last ∷ []) = last.ended ≡ false → 0 < length last.text
AreEnded (line ∷ next ∷ rest) = (line.ended ≡ true) × AreEnded (next ∷ rest)

-- the lines of a file with these bytes; `one_cut_into_lines` shows that each file has one such list
pub record AreLines (bytes : Bytes) (lines : List Line) : Type 0 where
  -- one behind the other they give the file
  pub joined : file_bytes lines ≡ bytes
  -- no text holds a newline
  pub apart : AllByRecursion (λ line. Lacks newline line.text) lines
  -- only the last may lack its newline
  pub ended : AreEnded lines

-- computed

-- the lines of a file with these pieces between newlines: an empty last piece is no line
abbrev pub lines_of_pieces : List Bytes → List Line
lines_of_pieces [] = []
lines_of_pieces (last ∷ []) =
    if is_empty last then [] else record { text = last; ended = false } ∷ []
lines_of_pieces (piece ∷ next ∷ rest) =
    record { text = piece; ended = true } ∷ lines_of_pieces (next ∷ rest)

-- the lines of a file, as `AreLines` says
abbrev pub lines_of : Bytes → List Line
lines_of bytes = lines_of_pieces (cut_at newline bytes)

-- each file has one list of lines, and `lines_of` is it
abbrev pub OneCutIntoLines : Type 0
OneCutIntoLines =
    (bytes : Bytes) (lines : List Line)
    → AreLines bytes lines ↔ (lines_of bytes ≡ lines)
