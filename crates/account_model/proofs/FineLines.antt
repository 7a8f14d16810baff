-- Lines of which no text has a newline, and all but the last have an end (`Fine`). Claim: they stay
-- so where a line gives way to others that keep its end (`Good`, `fine-step`), and the lines of a file
-- are so (`fine-lines`).
use Rattle.std.proofs.Common.{◌≡◌, ℕ, true, List, [], ◌∷◌, ◌++◌, refl, sym, ◌∙◌, subst, append-nil}
use Rattle.std.specs.List.{AllByRecursion}
use Rattle.std.proofs.lemmas.Bool.{true≢false}
use Rattle.acct_text.specs.Bytes.{newline}
use Rattle.acct_text.specs.Pieces.{Lacks}
use Rattle.acct_text.specs.Lines.{Line, AreEnded, lines_of}
use Rattle.acct_text.proofs.LinesLaws.{lines_of-are}

-- no text has a newline
abbrev pub AreApart : List Line → Type 0
AreApart lines = AllByRecursion (λ line. Lacks newline line.text) lines

-- all lines have an end
abbrev pub AllEnded : List Line → Type 0
AllEnded lines = AllByRecursion (λ line. line.ended ≡ true) lines

-- what holds of two lists holds of both together
pub all-append :
    {X : Type 0} (P : X → Type 0) (a b : List X)
    → AllByRecursion P a
    → AllByRecursion P b
    → AllByRecursion P (a ++ b)
all-append P [] b all_a all_b = all_b
all-append P (x ∷ a) b all_a all_b = (all_a.0, all-append P a b all_a.1 all_b)

-- ---- Ends

-- an ended line in front of lines
ended-cons :
    (line : Line) (rest : List Line)
    → line.ended ≡ true
    → AreEnded rest
    → AreEnded (line ∷ rest)
ended-cons line [] ended are = λ e. absurd (true≢false (sym ended ∙ e))
ended-cons line (next ∷ rest) ended are = (ended, are)

-- ended lines in front of lines
pub ended-append : (a b : List Line) → AllEnded a → AreEnded b → AreEnded (a ++ b)
ended-append [] b all are = are
ended-append (line ∷ a) b all are = ended-cons line (a ++ b) all.0 (ended-append a b all.1 are)

-- lines of which all have an end
pub all-are : (a : List Line) → AllEnded a → AreEnded a
all-are [] all = tt
all-are (line ∷ a) all = ended-cons line a all.0 (all-are a all.1)

-- the lines behind the first
ended-rest : (line : Line) (rest : List Line) → AreEnded (line ∷ rest) → AreEnded rest
ended-rest line [] are = tt
ended-rest line (next ∷ rest) are = are.1

-- a line gives way to others: of an ended line all have ends, and of the last one they are ended as lines are
ended-step :
    (line : Line) (rest front new : List Line)
    → AreEnded (line ∷ rest)
    → (line.ended ≡ true → AllEnded front)
    → (AreEnded (line ∷ []) → AreEnded front)
    → (rest ≡ [] → new ≡ [])
    → AreEnded new
    → AreEnded (front ++ new)
ended-step line [] front new are all last none ended =
    subst (λ n. AreEnded (front ++ n)) (sym (none refl))
    (subst (λ lines. AreEnded lines) (sym (append-nil front)) (last are))
ended-step line (next ∷ rest) front new are all last none ended =
    ended-append front new (all are.0) ended

-- ---- One line that gives way

-- what a line becomes keeps the ends, and has no newline
pub record Good (line : Line) (front : List Line) : Type 0 where
  pub apart : Lacks newline line.text → AreApart front
  pub all : line.ended ≡ true → AllEnded front
  pub last : AreEnded (line ∷ []) → AreEnded front

-- a line that stays
pub good-itself : (line : Line) → Good line (line ∷ [])
good-itself line = record {
  apart = λ apart. (apart, tt);
  all = λ ended. (ended, tt);
  last = λ are. are;
}

-- ---- All lines

-- the lines are apart and ended
pub record Fine (lines : List Line) : Type 0 where
  pub apart : AreApart lines
  pub ended : AreEnded lines

-- the lines behind the first
pub fine-rest : (line : Line) (rest : List Line) → Fine (line ∷ rest) → Fine rest
fine-rest line rest fine = record { apart = fine.apart.1; ended = ended-rest line rest fine.ended }

-- a line gives way to others
pub fine-step :
    (line : Line) (rest front new : List Line)
    → Fine (line ∷ rest)
    → Good line front
    → (rest ≡ [] → new ≡ [])
    → Fine new
    → Fine (front ++ new)
fine-step line rest front new fine good none after = record {
  apart = all-append (λ line. Lacks newline line.text) front new
      (good.apart fine.apart.0) after.apart;
  ended = ended-step line rest front new fine.ended good.all good.last none after.ended;
}

-- the lines of a file are apart and ended
pub fine-lines : (bytes : List ℕ) → Fine (lines_of bytes)
fine-lines bytes = record { apart = (lines_of-are bytes).apart; ended = (lines_of-are bytes).ended }
