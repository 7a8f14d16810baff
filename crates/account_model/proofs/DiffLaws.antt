-- Claim: the lines of a diff that aren't new are the old file's, and those that aren't gone the new file's
-- (`diff-exact`). Way: over the old lines, of which each adds itself to the old side (`old-until`), and to
-- the new side those in front of the place where it is found, and itself (`new-until`).
use Rattle.std.proofs.Common.{◌≡◌, ℕ, ◌+◌, Bool, true, false, List, [], ◌∷◌, ◌++◌, map, take, drop, get_or, refl, sym, ◌∙◌, ap, append_assoc}
use Rattle.std.specs.Prelude.{Option, None, Some, not, filter, position, if◌then◌else◌}
use Rattle.std.specs.Bool.{Decides}
use Rattle.std.proofs.lemmas.List.{map-append, take-append-drop, drop_more}
use Rattle.std.proofs.lemmas.List.Elements.{filter-append}
use Rattle.std.proofs.lemmas.List.Quantifiers.{position-Some}
use Rattle.std.proofs.lemmas.Bool.Decides.{Decides-and}
use Rattle.std.proofs.lemmas.Slice.Eq.{bytes_eq-Decides}
use Rattle.acct_text.specs.Lines.{Line, lines_of}
use Rattle.account_model.specs.declared.fate.Fate.TheVariants.{Kept, New}
use Rattle.account_model.specs.PlanDiff.{DiffLine, DiffsAreExact, fated, is_new, is_old, lines_between, lines_left, lines_that, lines_until, same_line}

-- the test of two ends tells whether they are the same
same-ends : (a b : Bool) → Decides (if a then b else not b) (a ≡ b)
same-ends true true = (λ e. refl, λ e. refl)
same-ends true false = (λ e. cc, λ e. cc)
same-ends false true = (λ e. cc, λ e. cc)
same-ends false false = (λ e. refl, λ e. refl)

-- the test of two lines tells it of them
same-lines : (line other : Line) → same_line line other ≡ true → line ≡ other
same-lines line other is =
    let parts = (Decides-and _ _ (bytes_eq-Decides line.text other.text)
    (same-ends line.ended other.ended)).0 is in
    λ i. record { text = parts.0 i; ended = parts.1 i }

-- those of two lists are those of the first and those of the second
lines_that-append :
    (test : DiffLine → Bool) (lines rest : List DiffLine)
    → lines_that test (lines ++ rest) ≡ lines_that test lines ++ lines_that test rest
lines_that-append test lines rest =
    ap (map (λ line. line.line)) (filter-append test lines rest)
    ∙ map-append (λ line. line.line) (filter test lines) (filter test rest)

-- new lines are the new file's
new-side : (news : List Line) → lines_that is_new (map (fated New) news) ≡ news
new-side [] = refl
new-side (new ∷ news) = ap (λ rest. new ∷ rest) (new-side news)

-- and none is the old file's
old-side : (news : List Line) → lines_that is_old (map (fated New) news) ≡ []
old-side [] = refl
old-side (new ∷ news) = old-side news

-- an old line alone is the old file's
old-until :
    (old : Line) (found : Option ℕ) (news : List Line)
    → lines_that is_old (lines_until old found news) ≡ old ∷ []
old-until old None news = refl
old-until old (Some place) news =
    lines_that-append is_old (map (fated New) (take place news)) (fated Kept old ∷ [])
    ∙ ap (λ lines. lines ++ old ∷ []) (old-side (take place news))

-- what is new up to an old line, and what is left behind it, are the new lines
new-until :
    (old : Line) (found : Option ℕ) (news : List Line)
    → position (same_line old) news ≡ found
    → lines_that is_new (lines_until old found news) ++ lines_left found news ≡ news
new-until old None news is = refl
new-until old (Some place) news is =
    let found = position-Some (same_line old) news place old is in
    let here : old ≡ get_or news place old = same-lines old (get_or news place old) found.1 in
    ap (λ lines. lines ++ drop (place + 1) news)
    (lines_that-append is_new (map (fated New) (take place news)) (fated Kept old ∷ [])
    ∙ ap (λ lines. lines ++ old ∷ []) (new-side (take place news)))
    ∙ append_assoc (take place news) (old ∷ []) (drop (place + 1) news)
    ∙ ap (λ line. take place news ++ line ∷ drop (place + 1) news) here
    ∙ ap (λ rest. take place news ++ rest) (sym (drop_more news place old found.0))
    ∙ take-append-drop place news

-- what isn't new is the old file's
old-lines : (olds news : List Line) → lines_that is_old (lines_between olds news) ≡ olds
old-lines [] news = old-side news
old-lines (old ∷ olds) news =
    let found = position (same_line old) news in
    let rest = lines_left found news in
    lines_that-append is_old (lines_until old found news) (lines_between olds rest)
    ∙ ap (λ lines. lines ++ lines_that is_old (lines_between olds rest)) (old-until old found news)
    ∙ ap (λ lines. old ∷ lines) (old-lines olds rest)

-- what isn't gone is the new file's
new-lines : (olds news : List Line) → lines_that is_new (lines_between olds news) ≡ news
new-lines [] news = new-side news
new-lines (old ∷ olds) news =
    let found = position (same_line old) news in
    let rest = lines_left found news in
    let until = lines_that is_new (lines_until old found news) in
    lines_that-append is_new (lines_until old found news) (lines_between olds rest)
    ∙ ap (λ lines. until ++ lines) (new-lines olds rest)
    ∙ new-until old found news refl

-- each diff is exact
pub diff-exact : DiffsAreExact
diff-exact old new = record {
  old_side = old-lines (lines_of old) (lines_of new);
  new_side = new-lines (lines_of old) (lines_of new);
}
