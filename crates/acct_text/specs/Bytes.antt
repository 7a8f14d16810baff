-- Bytes, those that separate the parts of a file (passwd(5), login.defs(5)), and the places of
-- parts in a text. A place counts the bytes in front of it, from 0.
use Rattle.std.specs.Prelude.{ℕ, ◌+◌, ◌-◌, ◌≤◌, Bool, true, false, List, [], ◌∷◌, length, take, drop}

-- a list of bytes, each a number from 0 to 255
abbrev pub Bytes : Type 0
Bytes = List ℕ

-- the byte that ends a line (passwd(5): one line for each user)
abbrev pub newline : ℕ
newline = 10

-- the byte between the key and the value of a setting (login.defs(5))
abbrev pub blank : ℕ
blank = 32

-- the byte of the digit `0`; those of the other digits follow it
abbrev pub zero_digit : ℕ
zero_digit = 48

-- the byte between two fields of a line (passwd(5): fields delimited by colons)
abbrev pub colon : ℕ
colon = 58

-- whether a list has no elements
abbrev pub is_empty : {X : Type 0} → List X → Bool
is_empty [] = true
is_empty (x ∷ xs) = false

-- the bytes of a text from a start up to an end
abbrev pub part_of : Bytes → ℕ × ℕ → Bytes
part_of text place = take (place.1 - place.0) (drop place.0 text)

-- the start isn't behind the end, nor the end behind the text
pub record IsWithin (text : Bytes) (place : ℕ × ℕ) : Type 0 where
  pub ordered : place.0 ≤ place.1
  pub inside : place.1 ≤ length text

-- the start and the end of each part, where they follow each other with one byte behind each
abbrev pub places_from : ℕ → List Bytes → List (ℕ × ℕ)
places_from start [] = []
places_from start (part ∷ parts) =
    (start, start + length part) ∷ places_from (start + length part + 1) parts
