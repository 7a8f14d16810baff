-- Claim: a file has no more lines than bytes (`lines-counted`). Way: each line has a byte.
use Rattle.std.proofs.Common.{◌≡◌, ℕ, ◌<◌, ◌≤◌, Bool, true, false, List, [], ◌∷◌, ◌++◌, length, refl, subst, arith, length-append}
use Rattle.acct_text.specs.Lines.{AreEnded, Line, file_bytes, line_bytes, lines_of}
use Rattle.acct_text.proofs.LinesLaws.{lines_of-are}

-- a line that has an end has a byte
ended-counted : (line : Line) → line.ended ≡ true → 1 ≤ length (line_bytes line)
ended-counted line ended = rw ended (omega (arith, length-append {A = ℕ}))

-- the last line has a byte, whether it has an end or not
last-counted :
    (line : Line) (ended : Bool)
    → line.ended ≡ ended
    → (line.ended ≡ false → 0 < length line.text)
    → 1 ≤ length (file_bytes (line ∷ []))
last-counted line true is some =
    omega (arith, length-append (line_bytes line) [], ended-counted line is)
last-counted line false is some =
    rw is (omega (arith, some is, length-append (line.text ++ []) [], length-append line.text []))

-- lines that are ended have a byte each
ended-lines-counted : (lines : List Line) → AreEnded lines →
    length lines ≤ length (file_bytes lines)
ended-lines-counted [] ended = omega arith
ended-lines-counted (last ∷ []) ended =
    last-counted last last.ended refl ended
ended-lines-counted (line ∷ next ∷ rest) ended =
    let one = ended-counted line ended.0 in
    let more = ended-lines-counted (next ∷ rest) ended.1 in
    omega (arith, length-append (line_bytes line) (file_bytes (next ∷ rest)), one, more)

-- a file has no more lines than bytes
pub lines-counted : (bytes : List ℕ) → length (lines_of bytes) ≤ length bytes
lines-counted bytes =
    subst (λ b. length (lines_of bytes) ≤ length b) (lines_of-are bytes).joined
    (ended-lines-counted (lines_of bytes) (lines_of-are bytes).ended)
