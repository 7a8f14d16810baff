-- Claim: what `lines_of` finds are the lines of a file (`lines_of-are`), and there are no others
-- (`lines_of-only`). Way: the pieces between newlines, with their newlines, give the file
-- (`lines_of_pieces-joined`, `-apart`, `-ended`). The other way, the first line of a file is found
-- in front of its newline (`lines_of-line`), and a last line without one as it is
-- (`lines_of-last`); so all lines are found again in their bytes (`lines-found`).
use Rattle.std.proofs.Common.{◌≡◌, ℕ, ◌<◌, Bool, true, false, List, [], ◌∷◌, ◌++◌, length, refl, ◌∙◌, ap, subst, arith, lt_irrefl, append_assoc, append-nil}
use Rattle.std.specs.List.{join_with_byte, AllByRecursion}
use Rattle.acct_text.specs.Bytes.{newline}
use Rattle.acct_text.specs.Pieces.{Lacks, cut_at}
use Rattle.acct_text.specs.Lines.{Line, file_bytes, lines_of, lines_of_pieces, AreEnded, AreLines}
use Rattle.acct_text.proofs.Cut.{cut-piece, cut-one, cut_at-is}

-- the line of this text, with a newline behind it or none
abbrev line_with : Bool → List ℕ → Line
line_with ended text = record { text = text; ended = ended }

-- the text of a line has no newline
abbrev IsOneLine : Line → Type 0
IsOneLine line = Lacks newline line.text

-- ---- What it finds are the lines

-- the bytes of the lines among the pieces are the pieces joined
lines_of_pieces-joined :
    (pieces : List (List ℕ))
    → file_bytes (lines_of_pieces pieces) ≡ join_with_byte newline pieces
lines_of_pieces-joined [] = refl
lines_of_pieces-joined ([] ∷ []) = refl
lines_of_pieces-joined ((byte ∷ text) ∷ []) = simp append-nil refl
lines_of_pieces-joined (piece ∷ next ∷ rest) =
    append_assoc piece (newline ∷ []) (file_bytes (lines_of_pieces (next ∷ rest)))
    ∙ ap (λ bytes. piece ++ newline ∷ bytes) (lines_of_pieces-joined (next ∷ rest))

-- pieces without a newline make lines without one
lines_of_pieces-apart :
    (pieces : List (List ℕ))
    → AllByRecursion (Lacks newline) pieces
    → AllByRecursion IsOneLine (lines_of_pieces pieces)
lines_of_pieces-apart [] apart = tt
lines_of_pieces-apart ([] ∷ []) apart = tt
lines_of_pieces-apart ((byte ∷ text) ∷ []) apart = (apart.0, tt)
lines_of_pieces-apart (piece ∷ next ∷ rest) apart =
    (apart.0, lines_of_pieces-apart (next ∷ rest) apart.1)

-- an ended line in front of lines leaves their ends as they are
AreEnded-cons :
    (text : List ℕ) (lines : List Line)
    → AreEnded lines
    → AreEnded (line_with true text ∷ lines)
AreEnded-cons text [] ended = λ unended. cc
AreEnded-cons text (next ∷ rest) ended = (refl, ended)

-- pieces make lines that are ended, but for a last one with a byte
lines_of_pieces-ended : (pieces : List (List ℕ)) → AreEnded (lines_of_pieces pieces)
lines_of_pieces-ended [] = tt
lines_of_pieces-ended ([] ∷ []) = tt
lines_of_pieces-ended ((byte ∷ text) ∷ []) = λ unended. omega arith
lines_of_pieces-ended (piece ∷ next ∷ rest) =
    AreEnded-cons piece (lines_of_pieces (next ∷ rest)) (lines_of_pieces-ended (next ∷ rest))

-- the found lines are the lines of the file
pub lines_of-are : (bytes : List ℕ) → AreLines bytes (lines_of bytes)
lines_of-are bytes = record {
  joined = lines_of_pieces-joined (cut_at newline bytes) ∙ (cut_at-is newline bytes).joined;
  apart = lines_of_pieces-apart (cut_at newline bytes) (cut_at-is newline bytes).apart;
  ended = lines_of_pieces-ended (cut_at newline bytes);
}

-- ---- There are no others

-- a piece in front of pieces is an ended line
lines_of_pieces-cons :
    (text : List ℕ) (pieces : List (List ℕ))
    → 0 < length pieces
    → lines_of_pieces (text ∷ pieces) ≡ line_with true text ∷ lines_of_pieces pieces
lines_of_pieces-cons text [] some = absurd (lt_irrefl 0 some)
lines_of_pieces-cons text (piece ∷ pieces) some = refl

-- the first line of a file that has a newline
pub lines_of-line :
    (text rest : List ℕ)
    → Lacks newline text
    → lines_of (text ++ newline ∷ rest) ≡ line_with true text ∷ lines_of rest
lines_of-line text rest lacks =
    ap lines_of_pieces (cut-piece newline text rest lacks)
    ∙ lines_of_pieces-cons text (cut_at newline rest) (cut_at-is newline rest).some

-- the line of a file without a newline
lines_of-last :
    (text : List ℕ)
    → Lacks newline text
    → 0 < length text
    → lines_of text ≡ line_with false text ∷ []
lines_of-last [] lacks some = absurd (lt_irrefl 0 some)
lines_of-last (byte ∷ text) lacks some = ap lines_of_pieces (cut-one newline (byte ∷ text) lacks)

-- a last line is found in its bytes
last-found :
    (text : List ℕ) (ended : Bool)
    → Lacks newline text
    → (ended ≡ false → 0 < length text)
    → lines_of (file_bytes (line_with ended text ∷ [])) ≡ line_with ended text ∷ []
last-found text true lacks some =
    ap lines_of (append-nil (text ++ newline ∷ [])) ∙ lines_of-line text [] lacks
last-found text false lacks some =
    ap lines_of (append-nil (text ++ []) ∙ append-nil text) ∙ lines_of-last text lacks (some refl)

-- an ended line is found in front of lines that are found
first-found :
    (text : List ℕ) (ended : Bool) (rest : List Line)
    → Lacks newline text
    → ended ≡ true
    → lines_of (file_bytes rest) ≡ rest
    → lines_of (file_bytes (line_with ended text ∷ rest)) ≡ line_with ended text ∷ rest
first-found text true rest lacks is_ended found =
    ap lines_of (append_assoc text (newline ∷ []) (file_bytes rest))
    ∙ lines_of-line text (file_bytes rest) lacks
    ∙ ap (λ lines. line_with true text ∷ lines) found
first-found text false rest lacks is_ended found = cc

-- lines are found in their bytes
lines-found :
    (lines : List Line)
    → AllByRecursion IsOneLine lines
    → AreEnded lines
    → lines_of (file_bytes lines) ≡ lines
lines-found [] apart ended = refl
lines-found (line ∷ []) apart ended = last-found line.text line.ended apart.0 ended
lines-found (line ∷ next ∷ rest) apart ended =
    first-found line.text line.ended (next ∷ rest) apart.0 ended.0
    (lines-found (next ∷ rest) apart.1 ended.1)

-- the lines of a file are the found ones
pub lines_of-only :
    (bytes : List ℕ) (lines : List Line)
    → AreLines bytes lines
    → lines_of bytes ≡ lines
lines_of-only bytes lines are =
    subst (λ b. lines_of b ≡ lines) are.joined (lines-found lines are.apart are.ended)
