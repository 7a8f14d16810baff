-- Claim: lines that are cut in two are cut so in their bytes (`split-joined`, `split-front`,
-- `split-behind`), so the leading lines of a text without a mark are a text of their own
-- (`front-marked`), and so are those up to a newline (`front-chunk`); those of them without more marks
-- lead the text too (`front-narrowed`), and behind leading lines without the marks the text is from
-- the marks on (`from-front`). Way: each line but the last has an end.
use Rattle.std.proofs.Common.{◌≡◌, ◌∙◌, ℕ, ◌+◌, ◌-◌, true, false, List, [], ◌∷◌, ◌++◌, length, take, drop, refl, sym, ap, subst, arith, append_assoc, append-nil}
use Rattle.std.specs.List.{AllByRecursion}
use Rattle.std.proofs.Math.Seq.{drop-append_seam, take-append_seam}
use Rattle.std.proofs.lemmas.Grind.{flat_map-append}
use Rattle.std.proofs.lemmas.List.{length-append, take_all}
use Rattle.acct_text.specs.Bytes.{newline}
use Rattle.acct_text.specs.Lines.{AreEnded, Line, file_bytes, line_bytes, lines_of}
use Rattle.acct_text.specs.Pieces.{Lacks}
use Rattle.acct_text.proofs.LinesLaws.{lines_of-are, lines_of-only}
use Rattle.account_model.proofs.ListLaws.{all-append}
use Rattle.acct_tables.specs.Marks.{IsFrontWithout, IsFromMark, IsFromMarks, IsWithout, IsWithoutAll}
use Rattle.acct_tables.proofs.MarkLemmas.{newline-cut}

-- ---- Lines cut in two

-- what holds of all holds of the first
first-all :
    {X : Type 0} (P : X → Type 0) (a b : List X)
    → AllByRecursion P (a ++ b)
    → AllByRecursion P a
first-all P [] b all = tt
first-all P (x ∷ a) b all = (all.0, first-all P a b all.1)

-- and of the last
last-all :
    {X : Type 0} (P : X → Type 0) (a b : List X)
    → AllByRecursion P (a ++ b)
    → AllByRecursion P b
last-all P [] b all = all
last-all P (x ∷ a) b all = last-all P a b all.1

-- the first of lines that are ended
first-ended : (a b : List Line) → AreEnded (a ++ b) → AreEnded a
first-ended [] b ended = tt
first-ended (line ∷ []) [] ended = ended
first-ended (line ∷ []) (next ∷ b) ended = λ unended.
    let both : true ≡ false = sym ended.0 ∙ unended in absurd cc
first-ended (line ∷ next ∷ a) b ended = (ended.0, first-ended (next ∷ a) b ended.1)

-- and the last
last-ended : (a b : List Line) → AreEnded (a ++ b) → AreEnded b
last-ended [] b ended = ended
last-ended (line ∷ []) [] ended = tt
last-ended (line ∷ []) (next ∷ b) ended = ended.1
last-ended (line ∷ next ∷ a) b ended = last-ended (next ∷ a) b ended.1

-- the text of a line has no newline
abbrev IsOneLine : Line → Type 0
IsOneLine line = Lacks newline line.text

module _ (text : List ℕ) (front behind : List Line) (is : lines_of text ≡ front ++ behind) where
  -- one part behind the other
  pub split-joined : text ≡ file_bytes front ++ file_bytes behind
  split-joined =
      sym (lines_of-are text).joined ∙ ap file_bytes is ∙ flat_map-append line_bytes front behind

  -- the first part
  pub split-front : lines_of (file_bytes front) ≡ front
  split-front = lines_of-only (file_bytes front) front (record {
    joined = refl;
    apart = first-all IsOneLine front behind
        (subst (AllByRecursion IsOneLine) is (lines_of-are text).apart);
    ended = first-ended front behind (subst AreEnded is (lines_of-are text).ended);
  })

  -- the second
  pub split-behind : lines_of (file_bytes behind) ≡ behind
  split-behind = lines_of-only (file_bytes behind) behind (record {
    joined = refl;
    apart = last-all IsOneLine front behind
        (subst (AllByRecursion IsOneLine) is (lines_of-are text).apart);
    ended = last-ended front behind (subst AreEnded is (lines_of-are text).ended);
  })

-- ---- Texts cut in two

-- what stands in front of the end of a text
pub front-taken :
    (front behind text : List ℕ)
    → text ≡ front ++ behind
    → take (length text - length behind) text ≡ front
front-taken front behind text is =
    let size : length text ≡ length front + length behind = ap length is
    ∙ length-append front behind in
    let place : length text - length behind ≡ length front = omega (arith, size) in
    ap (λ n. take n text) place ∙ ap (take (length front)) is ∙ take-append_seam front behind

-- what stands behind its start
pub behind-dropped :
    (front behind text : List ℕ) → text ≡ front ++ behind → drop (length front) text ≡ behind
behind-dropped front behind text is =
    ap (drop (length front)) is ∙ drop-append_seam front behind

-- a text is as long as both
pub both-lengths :
    (front behind text : List ℕ)
    → text ≡ front ++ behind
    → length text ≡ length front + length behind
both-lengths front behind text is = ap length is ∙ length-append front behind

-- ---- Leading lines without marks

-- lines without some marks and without others are without all of them
both-without :
    (marks more : List (List ℕ)) (lines : List Line)
    → AllByRecursion (λ line. IsWithoutAll marks line.text) lines
    → AllByRecursion (λ line. IsWithoutAll more line.text) lines
    → AllByRecursion (λ line. IsWithoutAll (marks ++ more) line.text) lines
both-without marks more [] without others = tt
both-without marks more (line ∷ lines) without others = (
  all-append (λ mark. IsWithout mark line.text) marks more without.0 others.0,
  both-without marks more lines without.1 others.1,
)

-- each line is without no marks
without-none : (lines : List Line) → AllByRecursion (λ line. IsWithoutAll [] line.text) lines
without-none [] = tt
without-none (line ∷ lines) = (tt, without-none lines)

-- lines without a mark
without-one :
    (mark : List ℕ) (lines : List Line)
    → AllByRecursion (λ line. IsWithout mark line.text) lines
    → AllByRecursion (λ line. IsWithoutAll (mark ∷ []) line.text) lines
without-one mark [] without = tt
without-one mark (line ∷ lines) without = ((without.0, tt), without-one mark lines without.1)

-- leading lines are a text of their own
front-of :
    (marks : List (List ℕ)) (text : List ℕ) (front behind : List Line)
    → lines_of text ≡ front ++ behind
    → AllByRecursion (λ line. IsWithoutAll marks line.text) front
    → IsFrontWithout marks text (file_bytes front)
front-of marks text front behind is without =
    let here = split-front text front behind is in
    let there = split-behind text front behind is in
    record {
      behind = file_bytes behind;
      joined = split-joined text front behind is;
      cut = is
          ∙ ap (λ lines. front ++ lines) (sym there)
          ∙ ap (λ lines. lines ++ lines_of (file_bytes behind)) (sym here);
      without = subst (AllByRecursion (λ line. IsWithoutAll marks line.text)) (sym here) without;
    }

module _ (marks : List (List ℕ)) (text : List ℕ) where
  -- leading lines of leading lines, which are without more marks
  pub front-narrowed :
      (more : List (List ℕ)) (front next : List ℕ)
      → IsFrontWithout marks text front
      → IsFrontWithout more front next
      → IsFrontWithout (marks ++ more) text next
  front-narrowed more front next outer inner =
      let later = lines_of inner.behind ++ lines_of outer.behind in
      let is : lines_of text ≡ lines_of next ++ later =
      outer.cut ∙ ap (λ lines. lines ++ lines_of outer.behind) inner.cut
      ∙ append_assoc (lines_of next) (lines_of inner.behind) (lines_of outer.behind) in
      let here = first-all (λ (line : Line). IsWithoutAll marks line.text) (lines_of next)
      (lines_of inner.behind)
      (subst (AllByRecursion (λ line. IsWithoutAll marks line.text)) inner.cut outer.without) in
      subst (IsFrontWithout (marks ++ more) text) (lines_of-are next).joined
      (front-of (marks ++ more) text (lines_of next) later is
      (both-without marks more (lines_of next) here inner.without))

  -- behind them the text is from the marks on
  pub from-front :
      (whole front : List ℕ)
      → IsFromMarks marks whole text
      → IsFrontWithout marks text front
      → IsFromMarks marks whole (take (length text - length front) (drop (length front) text))
  from-front whole front from left =
      let rest = behind-dropped front left.behind text left.joined in
      let size = both-lengths front left.behind text left.joined in
      let all : take (length text - length front) (drop (length front) text) ≡ left.behind =
      ap (take (length text - length front)) rest
      ∙ take_all (length text - length front) left.behind (omega (arith, size)) in
      subst (IsFromMarks marks whole) (sym all) (record {
        front = from.front ++ lines_of front;
        joined = from.joined ∙ ap (λ lines. from.front ++ lines) left.cut
            ∙ sym (append_assoc from.front (lines_of front) (lines_of left.behind));
        without = all-append (λ line. IsWithoutAll marks line.text) from.front (lines_of front)
            from.without left.without;
      })

module _ (text : List ℕ) where
  -- a text is from any marks on from its start
  pub from-start : (marks : List (List ℕ)) → IsFromMarks marks text text
  from-start marks = record { front = []; joined = refl; without = tt }

  -- all lines of a text are leading lines
  pub front-all : IsFrontWithout [] text text
  front-all = record {
    behind = [];
    joined = sym (append-nil text);
    cut = sym (append-nil (lines_of text));
    without = without-none (lines_of text);
  }

  -- and those up to a newline
  pub front-chunk :
      (front behind : List ℕ)
      → text ≡ front ++ newline ∷ behind
      → IsFrontWithout [] text (take (length text - length behind) text)
  front-chunk front behind is =
      let chunk = front ++ newline ∷ [] in
      let whole : text ≡ chunk ++ behind = is ∙ sym (append_assoc front (newline ∷ []) behind) in
      subst (IsFrontWithout [] text) (sym (front-taken chunk behind text whole)) (record {
        behind = behind;
        joined = whole;
        cut = ap lines_of is ∙ newline-cut front behind;
        without = without-none (lines_of chunk);
      })

  module _ (mark rest : List ℕ) (from : IsFromMark mark text rest) where
    -- what stands in front of a mark
    pub marked-joined : text ≡ file_bytes from.front ++ rest
    marked-joined =
        split-joined text from.front (lines_of rest) from.joined
        ∙ ap (λ bytes. file_bytes from.front ++ bytes) (lines_of-are rest).joined

    -- are leading lines without it
    pub front-marked : IsFrontWithout (mark ∷ []) text (take (length text - length rest) text)
    front-marked =
        subst (IsFrontWithout (mark ∷ []) text)
        (sym (front-taken (file_bytes from.front) rest text marked-joined))
        (front-of (mark ∷ []) text from.front (lines_of rest) from.joined
        (without-one mark from.front from.without))
