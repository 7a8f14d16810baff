-- Claim: where a text is cut into pieces, `part_of` shows each piece at its place, and the place
-- lies within the text (`parts-shown`, `parts-within`); the same holds of the lines among the
-- pieces. Way: each piece of a joined text lies where `places_from` says (`pieces-lie`), and so do
-- the lines, which are the pieces but an empty last one (`lines-lie`).
use Rattle.std.proofs.Common.{◌≡◌, ℕ, ◌+◌, ◌-◌, List, [], ◌∷◌, ◌++◌, length, drop, map, All, refl, sym, ap, arith, append_assoc}
use Rattle.std.proofs.lemmas.List.{append-nil, take_at, drop_at, length-append}
use Rattle.std.proofs.lemmas.List.Elements.{All-nil, All-cons}
use Rattle.std.proofs.lemmas.List.Splits.{join_with_byte-slice_split}
use Rattle.std.specs.List.{join_with_byte}
use Rattle.std.specs.Prelude.{⊤}
use Rattle.acct_text.specs.Bytes.{part_of, places_from, IsWithin}
use Rattle.acct_text.specs.Pieces.{cut_at}
use Rattle.acct_text.specs.Lines.{lines_of_pieces, texts_of}

-- the part lies in the text from this start on
pub record LiesAt (text : List ℕ) (start : ℕ) (part : List ℕ) : Type 0 where
  pub shown : part_of text (start, start + length part) ≡ part
  pub within : IsWithin text (start, start + length part)

-- the parts lie in the text from this start on, with one byte behind each
abbrev pub LieFrom : List ℕ → ℕ → List (List ℕ) → Type 0
LieFrom text start [] = ⊤
LieFrom text start (part ∷ parts) =
    LiesAt text start part × LieFrom text (start + length part + 1) parts

-- a part lies behind the bytes in front of it
lies-behind :
    (text front part rest : List ℕ) (start : ℕ)
    → start ≡ length front
    → text ≡ front ++ (part ++ rest)
    → LiesAt text start part
lies-behind text front part rest start begins joined =
    let size : start + length part - start ≡ length part = omega arith in
    let behind : drop start text ≡ part ++ rest =
    rw joined (drop_at front (part ++ rest) start (sym begins)) in
    let whole = length-append front (part ++ rest) in
    let inside = length-append part rest in
    record {
      shown = rw (size, behind) (take_at part rest (length part) refl);
      within = record { ordered = omega arith; inside = omega (arith, ap length joined) };
    }

module _ (byte : ℕ) where
  -- the pieces of a joined text lie behind the bytes in front of them
  pieces-lie :
      (text : List ℕ) (pieces : List (List ℕ)) (front : List ℕ) (start : ℕ)
      → start ≡ length front
      → text ≡ front ++ join_with_byte byte pieces
      → LieFrom text start pieces
  pieces-lie text [] front start begins joined = tt
  pieces-lie text (piece ∷ []) front start begins joined =
      let whole : text ≡ front ++ (piece ++ []) = simp append-nil joined in
      (lies-behind text front piece [] start begins whole, tt)
  pieces-lie text (piece ∷ next ∷ pieces) front start begins joined =
      let later = join_with_byte byte (next ∷ pieces) in
      let before = front ++ (piece ++ byte ∷ []) in
      let moved : text ≡ before ++ later = simp append_assoc joined in
      let behind : start + length piece + 1 ≡ length before =
      omega (arith, length-append front (piece ++ byte ∷ []), length-append piece (byte ∷ [])) in (
        lies-behind text front piece (byte ∷ later) start begins joined,
        pieces-lie text (next ∷ pieces) before (start + length piece + 1) behind moved,
      )

-- the pieces of a text lie in it from its start on
pub cut_at-lies : (byte : ℕ) (text : List ℕ) → LieFrom text 0 (cut_at byte text)
cut_at-lies byte text =
    pieces-lie byte text (cut_at byte text) [] 0 refl (sym (join_with_byte-slice_split byte text))

-- the lines among the pieces lie where these do
pub lines-lie :
    (text : List ℕ) (start : ℕ) (pieces : List (List ℕ))
    → LieFrom text start pieces
    → LieFrom text start (texts_of (lines_of_pieces pieces))
lines-lie text start [] lie = tt
lines-lie text start ([] ∷ []) lie = tt
lines-lie text start ((byte ∷ last) ∷ []) lie = lie
lines-lie text start (piece ∷ next ∷ pieces) lie =
    (lie.0, lines-lie text (start + length piece + 1) (next ∷ pieces) lie.1)

-- parts that lie in a text are shown at their places
pub parts-shown :
    (text : List ℕ) (start : ℕ) (parts : List (List ℕ))
    → LieFrom text start parts
    → map (part_of text) (places_from start parts) ≡ parts
parts-shown text start [] lie = refl
parts-shown text start (part ∷ parts) lie =
    rw (lie.0.shown, parts-shown text (start + length part + 1) parts lie.1) refl

-- parts that lie in a text have their places within it
pub parts-within :
    (text : List ℕ) (start : ℕ) (parts : List (List ℕ))
    → LieFrom text start parts
    → All (IsWithin text) (places_from start parts)
parts-within text start [] lie = All-nil (IsWithin text)
parts-within text start (part ∷ parts) lie =
    let later = parts-within text (start + length part + 1) parts lie.1 in
    All-cons (IsWithin text) _ _ lie.0.within later
