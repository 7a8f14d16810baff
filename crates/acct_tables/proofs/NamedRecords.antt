-- Claim: what is told of a name among the lines of a table is what is so among their records: whether
-- one has it (`told-has`), and whether one in front of a line does (`told-before`). Way: line by line.
use Rattle.std.proofs.Common.{◌≡◌, ℕ, ◌+◌, ◌<◌, Bool, true, false, List, [], ◌∷◌, ◌++◌, length, zero-add, arith, refl, sym, ◌∙◌, ap, if◌then◌else◌}
use Rattle.std.specs.Prelude.{Option, Some, None, count_by, is_some, nat_lt, option_map}
use Rattle.std.specs.List.{cons_option, position_from}
use Rattle.std.proofs.lemmas.Bool.{le-ltb, lt-ltb}
use Rattle.std.proofs.lemmas.List.{length-map, map-append}
use Rattle.std.proofs.lemmas.Slice.Eq.{bytes_eq-Decides}
use Rattle.acct_text.specs.Lines.{Line}
use Rattle.account_model.specs.Format.{Format, find_named, has_named, is_named, records_of}
use Rattle.acct_tables.specs.NameIndex.{begins_before, has_name, line_name, line_names, lines_named, records_at}

module _ {R : Type 0} (format : Format R) (name : List ℕ) where
  -- by what the first line reads as, and whether it has the name
  has-by :
      (start : ℕ) (behind : Option ℕ) (r : R) (found : Option R) (named : Bool)
      → is_some behind ≡ is_some found
      → is_some (if named then Some start else behind) ≡ is_some (if named then Some r else found)
  has-by start behind r found true later = refl
  has-by start behind r found false later = later

  -- a line in front of others has the name, or some other line, where a record has it
  has-line :
      (kept : Option R) (rest : List R) (start : ℕ) (behind : Option ℕ)
      → is_some behind ≡ has_named format name rest
      → is_some (if has_name name (option_map format.name kept) then Some start else behind)
      ≡ has_named format name (cons_option kept rest)
  has-line None rest start behind later = later
  has-line (Some r) rest start behind later =
      has-by start behind r (find_named format name rest) (is_named format name r) later

  -- a line has the name where a record has it
  has-from :
      (lines : List Line) (start : ℕ)
      → is_some (position_from (has_name name) start (line_names format lines))
      ≡ has_named format name (records_of format lines)
  has-from [] start = refl
  has-from (line ∷ rest) start =
      has-line (format.read line.text) (records_of format rest) start
      (position_from (has_name name) (start + 1) (line_names format rest))
      (has-from rest (start + 1))

  module _ (lines : List Line) where
    -- the names of the lines
    abbrev names : List (Option (List ℕ))
    names = line_names format lines

    -- something, by whether there is a first line
    some-told : (first : Option ℕ) (count : ℕ) → is_some (records_at first count) ≡ is_some first
    some-told None count = refl
    some-told (Some first) count = refl

    -- something is told where a record has the name
    pub told-has : is_some (lines_named name names)
        ≡ has_named format name (records_of format lines)
    told-has =
        some-told (position_from (has_name name) 0 names) (count_by (has_name name) names)
        ∙ has-from lines 0

-- ---- Records in front of a place

-- whether a place, where there is one, is in front of another
abbrev is_before : ℕ → Option ℕ → Bool
is_before place None = false
is_before place (Some first) = nat_lt first place

module _ {X : Type 0} (test : X → Bool) (x : X) (rest : List X) (passes : test x ≡ true) where
  -- by whether the first element passes
  front-by :
      (now : Bool) (start place : ℕ) (behind found : Option ℕ)
      → start < place
      → is_before place behind ≡ is_some found
      → is_before place (if now then Some start else behind)
      ≡ is_some (if now then Some start else found)
  front-by true start place behind found inside later = lt-ltb start place inside
  front-by false start place behind found inside later = later

  -- the first that passes stands in front of one that passes where one in front of it does
  front-found :
      (front : List X) (start : ℕ)
      → is_before (start + length front) (position_from test start (front ++ x ∷ rest))
      ≡ is_some (position_from test start front)
  front-found [] start = rw passes (le-ltb start (start + 0) (omega arith))
  front-found (y ∷ front) start =
      let same : start + length (y ∷ front) ≡ (start + 1) + length front = omega arith in
      ap (λ place. is_before place (position_from test start ((y ∷ front) ++ x ∷ rest))) same
      ∙ front-by (test y) start ((start + 1) + length front)
      (position_from test (start + 1) (front ++ x ∷ rest)) (position_from test (start + 1) front)
      (omega arith) (front-found front (start + 1))

-- by whether there is a first line
before-by :
    (place : ℕ) (first : Option ℕ) (count : ℕ)
    → begins_before place (records_at first count) ≡ is_before place first
before-by place None count = refl
before-by place (Some first) count = refl

-- the name of a record is told in front of its line where a record in front of it has it
pub told-before :
    {R : Type 0} (format : Format R) (front : List Line) (line : Line) (rest : List Line) (r : R)
    → format.read line.text ≡ Some r
    → begins_before (length front)
    (lines_named (format.name r) (line_names format (front ++ line ∷ rest)))
    ≡ has_named format (format.name r) (records_of format front)
told-before format front line rest r reads =
    let name = format.name r in
    let names = line_names format front in
    let here : has_name name (line_name format line) ≡ true =
    ap (λ found. has_name name (option_map format.name found)) reads
    ∙ (bytes_eq-Decides name name).1 refl in
    before-by (length front) (position_from (has_name name) 0
    (line_names format (front ++ line ∷ rest)))
    (count_by (has_name name) (line_names format (front ++ line ∷ rest)))
    ∙ ap (λ all. is_before (length front) (position_from (has_name name) 0 all))
    (map-append (line_name format) front (line ∷ rest))
    ∙ ap (λ place. is_before place
    (position_from (has_name name) 0 (names ++ line_names format (line ∷ rest))))
    (sym (zero-add (length names) ∙ length-map front (line_name format)))
    ∙ front-found (has_name name) (line_name format line) (line_names format rest) here names 0
    ∙ has-from format name front 0
