-- Claim: a text from its first line on that begins with some bytes is behind lines that begin
-- otherwise: from behind the newline in front of them (`behind-place`), or without a line
-- (`behind-none`). Of a record's name and a colon, such lines are no records of the name
-- (`other-named`). Way: each line but the first stands behind a newline (`lines-other`), and a
-- record's line without a colon is its name (`first-parts`).
use Rattle.std.proofs.Common.{◌≡◌, ◌∙◌, ℕ, ◌+◌, ◌-◌, ◌<◌, ◌≤◌, false, inl, inr, List, [], ◌∷◌, ◌++◌, length, take, drop, refl, sym, ap, subst, arith, lt_irrefl, append_assoc, append-nil}
use Rattle.std.specs.Prelude.{◌⊎◌, ◌==◌, Option, Some, None, is_some, slice_index}
use Rattle.std.specs.List.{AllByRecursion, join_with_byte, starts_with}
use Rattle.std.proofs.lemmas.Bool.{cases_Bool, true≢false}
use Rattle.std.proofs.lemmas.Bool.Decides.{Decides-eqb}
use Rattle.std.proofs.lemmas.List.{length-append, length-take-le}
use Rattle.std.proofs.lemmas.Slice.Eq.{bytes_eq-Decides, starts_is}
use Rattle.memchr.specs.Find.{NoneBefore, Nowhere, OccursAt}
use Rattle.acct_text.specs.Bytes.{colon, newline}
use Rattle.acct_text.specs.Lines.{Line, lines_of, lines_of_pieces}
use Rattle.acct_text.specs.Pieces.{cut_at, fields_of}
use Rattle.acct_text.proofs.Cut.{cut_at-is}
use Rattle.account_model.specs.Faults.{field_at}
use Rattle.account_model.specs.Format.{Format, is_named}
use Rattle.account_model.specs.Naming.{NamesFirst, first_field}
use Rattle.acct_tables.specs.Marks.{BeginsOtherwise, IsBehindAll, IsFromMark, IsWithout}
use Rattle.acct_tables.specs.TableLines.{text_is_named}
use Rattle.acct_tables.proofs.MarkLemmas.{all-behind, cut-there, holds-back, newline-cut, without-before}

-- ---- Lines in front

module _ (P Q : List ℕ → Type 0) (weaker : (line : List ℕ) → P line → Q line) where
  -- what holds of all lines holds of them in a weaker form
  all-weaker :
      (lines : List Line)
      → AllByRecursion (λ line. P line.text) lines
      → AllByRecursion (λ line. Q line.text) lines
  all-weaker [] all = tt
  all-weaker (line ∷ rest) all = (weaker line.text all.0, all-weaker rest all.1)

  -- and so of the lines in front of a text
  pub behind-weaker : (text rest : List ℕ) → IsBehindAll P text rest → IsBehindAll Q text rest
  behind-weaker text rest from = record {
    front = from.front;
    joined = from.joined;
    passed = all-weaker from.front from.passed;
  }

-- no more lines are left behind others
pub behind-fewer :
    (P : List ℕ → Type 0) (text rest : List ℕ)
    → IsBehindAll P text rest
    → length (lines_of rest) ≤ length (lines_of text)
behind-fewer P text rest from =
    let size = ap length from.joined ∙ length-append from.front (lines_of rest) in
    omega (arith, size)

-- ---- Lines without a mark

module _ (mark text rest : List ℕ) (from : IsFromMark mark text rest) where
  -- a text from a mark on is behind lines without it
  pub mark-behind : IsBehindAll (IsWithout mark) text rest
  mark-behind = record { front = from.front; joined = from.joined; passed = from.without }

  -- so none of them begins with the mark and more
  pub mark-begins :
      (more : List ℕ) → IsBehindAll (BeginsOtherwise (mark ++ more)) text rest
  mark-begins more =
      behind-weaker (IsWithout mark) (BeginsOtherwise (mark ++ more))
      (λ line without behind is. without (record {
        before = [];
        behind = more ++ behind;
        is = is ∙ append_assoc mark more behind;
      }))
      text rest mark-behind

-- ---- Lines that begin otherwise

module _ (begin : List ℕ) where
  -- the lines among the pieces, where no newline has the bytes behind it
  lines-other :
      (pieces : List (List ℕ))
      → BeginsOtherwise begin (join_with_byte newline pieces)
      → IsWithout (newline ∷ begin) (join_with_byte newline pieces)
      → AllByRecursion (λ line. BeginsOtherwise begin line.text) (lines_of_pieces pieces)
  lines-other [] other without = tt
  lines-other ([] ∷ []) other without = tt
  lines-other ((byte ∷ text) ∷ []) other without = (other, tt)
  lines-other (piece ∷ next ∷ more) other without =
      let mark = newline ∷ begin in
      let later = join_with_byte newline (next ∷ more) in (
        λ behind is. other (behind ++ newline ∷ later)
            (ap (λ t. t ++ newline ∷ later) is ∙ append_assoc begin behind (newline ∷ later)),
        lines-other (next ∷ more)
            (λ behind is. without (record {
              before = piece;
              behind = behind;
              is = ap (λ t. piece ++ newline ∷ t) is;
            }))
            (λ holds. without (holds-back mark piece (newline ∷ later)
            (holds-back mark (newline ∷ []) later holds))),
      )

  -- the lines of such a text
  text-other :
      (text : List ℕ)
      → BeginsOtherwise begin text
      → IsWithout (newline ∷ begin) text
      → AllByRecursion (λ line. BeginsOtherwise begin line.text) (lines_of text)
  text-other text other without =
      let joined = sym (cut_at-is newline text).joined in
      lines-other (cut_at newline text) (subst (BeginsOtherwise begin) joined other)
      (subst (IsWithout (newline ∷ begin)) joined without)

  module _ (text : List ℕ) (other : BeginsOtherwise begin text) where
    -- nothing is left of a text without such a line
    pub behind-none :
        Nowhere (OccursAt text (newline ∷ begin)) 0 (length text + 1)
        → IsBehindAll (BeginsOtherwise begin) text []
    behind-none nowhere = record {
      front = lines_of text;
      joined = sym (append-nil (lines_of text));
      passed = text-other text other (without-before (newline ∷ begin) text text []
          (length text + 1) (sym (append-nil text)) (omega arith) nowhere);
    }

    -- a text is left from behind the first newline that has the bytes behind it
    pub behind-place :
        (place : ℕ)
        → 0 < length begin
        → NoneBefore (OccursAt text (newline ∷ begin)) 0 (length text + 1) place
        × OccursAt text (newline ∷ begin) place
        → IsBehindAll (BeginsOtherwise begin) text
        (take (length text - (place + 1)) (drop (place + 1) text))
    behind-place place some first =
        let mark = newline ∷ begin in
        let rest = drop (place + 1) text in
        let front = take place text ++ newline ∷ [] in
        let low : place < length text = omega (arith, first.1.fits) in
        let size : length (take place text) ≡ place = length-take-le place text (omega arith) in
        let next : place ≡ place + 0 = omega arith in
        let long : length front ≡ place + 1 =
        length-append (take place text) (newline ∷ []) ∙ ap (λ n. n + 1) size in
        let cut : text ≡ take place text ++ newline ∷ rest =
        cut-there text place low (ap (slice_index text) next ∙ first.1.reads 0 (omega arith)) in
        let whole : text ≡ front ++ rest =
        cut ∙ sym (append_assoc (take place text) (newline ∷ []) rest) in
        let from : IsBehindAll (BeginsOtherwise begin) text rest = record {
          front = lines_of front;
          joined = ap lines_of cut ∙ newline-cut (take place text) rest;
          passed = text-other front
              (λ behind is. other (behind ++ rest)
              (whole ∙ ap (λ t. t ++ rest) is ∙ append_assoc begin behind rest))
              (without-before mark text front rest place whole (omega (arith, long, some))
              first.0.before);
        } in
        subst (IsBehindAll (BeginsOtherwise begin) text) (sym (all-behind text (place + 1))) from

-- a text that doesn't start with what stands behind the newline of a mark begins otherwise
pub begins-not :
    (text mark begin : List ℕ)
    → mark ≡ newline ∷ begin
    → starts_with (λ a b. a == b) text (take (length mark - 1) (drop 1 mark)) ≡ false
    → BeginsOtherwise begin text
begins-not text mark begin is otherwise =
    let behind_it : take (length mark - 1) (drop 1 mark) ≡ begin =
    all-behind mark 1 ∙ ap (drop 1) is in
    λ behind whole. true≢false (sym ((starts_is Decides-eqb text begin
    (starts_with (λ a b. a == b) text begin) refl).1 behind whole)
    ∙ ap (starts_with (λ a b. a == b) text) (sym behind_it) ∙ otherwise)

-- ---- Lines that begin with a name and a colon

-- fields that are joined are the first alone, or have a colon behind it
first-parts :
    (pieces : List (List ℕ))
    → 0 < length pieces
    → (join_with_byte colon pieces ≡ field_at 1 pieces)
    ⊎ ((later : List ℕ) × (join_with_byte colon pieces ≡ field_at 1 pieces ++ colon ∷ later))
first-parts [] some = absurd (lt_irrefl 0 some)
first-parts (piece ∷ []) some = inl refl
first-parts (piece ∷ next ∷ rest) some = inr (join_with_byte colon (next ∷ rest), refl)

module _ {R : Type 0} (format : Format R) (names_first : NamesFirst format) (name : List ℕ)
    (none : is_some (format.read name) ≡ false) where
  -- a record of the name begins with the name and a colon, as the name alone is none
  begins-named :
      (line : List ℕ) (r : R)
      → format.read line ≡ Some r
      → format.name r ≡ name
      → BeginsOtherwise (name ++ colon ∷ []) line
      → ⊥
  begins-named line r read named other =
      let are = cut_at-is colon line in
      let is : first_field line ≡ name = names_first line r read ∙ named in
      elim (first-parts (fields_of line) are.some) [
        | inl alone ↦ true≢false (sym (ap is_some
            (ap format.read (sym is ∙ sym alone ∙ are.joined) ∙ read)) ∙ none)
        | inr more ↦ other more.0 (sym are.joined ∙ more.1
            ∙ ap (λ field. field ++ colon ∷ more.0) is
            ∙ sym (append_assoc name (colon ∷ []) more.0))
      ]

  -- by what a line reads as
  other-by :
      (line : List ℕ) (kept : Option R)
      → format.read line ≡ kept
      → BeginsOtherwise (name ++ colon ∷ []) line
      → (elim kept [ None ↦ false | Some r ↦ is_named format name r ]) ≡ false
  other-by line None read other = refl
  other-by line (Some r) read other = elim (cases_Bool (is_named format name r)) [
    | inl named ↦ absurd (begins-named line r read
        ((bytes_eq-Decides (format.name r) name).0 named) other)
    | inr different ↦ different
  ]

  -- a line that begins otherwise is no record of the name
  pub other-named :
      (line : List ℕ)
      → BeginsOtherwise (name ++ colon ∷ []) line
      → text_is_named format name line ≡ false
  other-named line other = other-by line (format.read line) refl other
