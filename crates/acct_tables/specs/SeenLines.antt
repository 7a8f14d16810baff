-- The lines of a file as acct_text has them: one of the program stands for one of these (passwd(5),
-- and likewise the other five tables).
use Rattle.std.specs.Prelude.{◌≡◌, ℕ, ◌==◌, List, [], ◌∷◌, Option, Some, None, if◌then◌else◌}
use Rattle.acct_text.specs.Bytes.{newline}
use Rattle.acct_text.specs.Lines.{Line, file_bytes, lines_of}
use Rattle.acct_tables.specs.declared.lines.FileLine.{FileLine}

-- the line
abbrev pub seen_line : FileLine → Line
seen_line line = record { text = line.text.now; ended = line.ended }

-- the lines are those of the file that they make
abbrev pub AreOfFile : List Line → Type 0
AreOfFile lines = lines_of (file_bytes lines) ≡ lines

-- the newline that is missing behind a last byte
abbrev pub end_for : Option ℕ → List ℕ
end_for None = []
end_for (Some last) = if last == newline then [] else newline ∷ []

-- the newline that the last line of a text lacks; nothing where it has one, and without lines
abbrev pub missing_end : List ℕ → List ℕ
missing_end [] = []
missing_end (last ∷ []) = if last == newline then [] else newline ∷ []
missing_end (byte ∷ next ∷ rest) = missing_end (next ∷ rest)
