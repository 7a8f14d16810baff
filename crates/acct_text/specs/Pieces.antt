-- A text in pieces between separators: the fields of a line between colons (passwd(5)), the names
-- of a list between commas (group(5)).
use Rattle.std.specs.Prelude.{◌≡◌, ◌≢◌, ◌↔◌, ℕ, ◌<◌, ◌==◌, List, length}
use Rattle.std.specs.List.{slice_split, join_with_byte, AllByRecursion}
use Rattle.acct_text.specs.Bytes.{Bytes, colon}

-- no byte of the text is this one
abbrev pub Lacks : ℕ → Bytes → Type 0
Lacks byte text = AllByRecursion (λ other. other ≢ byte) text

-- the pieces of the text; `one_cut_into_pieces` shows that each text has one such list
pub record AreCutAt (separator : ℕ) (text : Bytes) (pieces : List Bytes) : Type 0 where
  -- with a separator between each two they give the text
  pub joined : join_with_byte separator pieces ≡ text
  -- no piece holds a separator
  pub apart : AllByRecursion (Lacks separator) pieces
  -- there is one piece at least, if only an empty one
  pub some : 0 < length pieces

-- the line of these fields, with a colon between each two (passwd(5))
abbrev pub line_of : List Bytes → Bytes
line_of fields = join_with_byte colon fields

-- computed

-- the pieces of a text, as `AreCutAt` says
abbrev pub cut_at : ℕ → Bytes → List Bytes
cut_at separator text = slice_split (λ byte. byte == separator) text

-- the fields of a line (passwd(5))
abbrev pub fields_of : Bytes → List Bytes
fields_of line = cut_at colon line

-- each text has one list of pieces between separators, and `cut_at` is it
abbrev pub OneCutIntoPieces : Type 0
OneCutIntoPieces =
    (separator : ℕ) (text : Bytes) (pieces : List Bytes)
    → AreCutAt separator text pieces ↔ (cut_at separator text ≡ pieces)
