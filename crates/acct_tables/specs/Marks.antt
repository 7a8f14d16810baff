-- Bytes by which a line is told that may matter: the lines in front of the first that has them are
-- passed over at once (passwd(5), and likewise the other five tables).
use Rattle.std.specs.Prelude.{◌≡◌, ◌≢◌, ℕ, List, ◌∷◌, ◌++◌, map}
use Rattle.std.specs.List.{AllByRecursion}
use Rattle.std.specs.Vec.{vec_items}
use Rattle.acct_text.specs.Lines.{Line, lines_of}
use Rattle.acct_tables.specs.declared.marks.Marks.{Marks}

-- the bytes of the mark stand somewhere in the text, in a row
pub record HoldsMark (mark text : List ℕ) : Type 0 where
  pub before : List ℕ
  pub behind : List ℕ
  pub is : text ≡ before ++ (mark ++ behind)

-- they stand nowhere in it
abbrev pub IsWithout : List ℕ → List ℕ → Type 0
IsWithout mark text = HoldsMark mark text → ⊥

-- the text of a file from one of its lines on, in front of which no line has the mark
pub record IsFromMark (mark text rest : List ℕ) : Type 0 where
  -- the lines in front
  pub front : List Line
  pub joined : lines_of text ≡ front ++ lines_of rest
  pub without : AllByRecursion (λ line. IsWithout mark line.text) front

-- ---- Several marks

-- the marks as a list
abbrev pub marks_in : Marks → List (List ℕ)
marks_in marks = marks.first.now ∷ map vec_items marks.others.now

-- none of these stands in the text
abbrev pub IsWithoutAll : List (List ℕ) → List ℕ → Type 0
IsWithoutAll marks text = AllByRecursion (λ mark. IsWithout mark text) marks

-- the text of a file from one of its lines on, in front of which no line has one of the marks
pub record IsFromMarks (marks : List (List ℕ)) (text rest : List ℕ) : Type 0 where
  -- the lines in front
  pub front : List Line
  pub joined : lines_of text ≡ front ++ lines_of rest
  pub without : AllByRecursion (λ line. IsWithoutAll marks line.text) front

-- the first lines of a text, of which none has one of the marks
pub record IsFrontWithout (marks : List (List ℕ)) (text front : List ℕ) : Type 0 where
  -- the bytes behind them
  pub behind : List ℕ
  pub joined : text ≡ front ++ behind
  pub cut : lines_of text ≡ lines_of front ++ lines_of behind
  pub without : AllByRecursion (λ line. IsWithoutAll marks line.text) (lines_of front)

-- ---- Lines that are passed over

-- the text doesn't begin with these bytes
abbrev pub BeginsOtherwise : List ℕ → List ℕ → Type 0
BeginsOtherwise begin text = (behind : List ℕ) → text ≢ begin ++ behind

-- the text of a file from one of its lines on, where each line in front is such a one
pub record IsBehindAll (IsPassed : List ℕ → Type 0) (text rest : List ℕ) : Type 0 where
  -- the lines in front
  pub front : List Line
  pub joined : lines_of text ≡ front ++ lines_of rest
  pub passed : AllByRecursion (λ line. IsPassed line.text) front
