-- What hunks print: the hunk from a place to another is its head and its lines (`hunk-written`). Of two
-- places the further one has as many lines in front of it or more (`counts-ordered`), and a point is
-- moved on over one line (`point-more`).
use Rattle.std.proofs.Common.{◌≡◌, ℕ, zero, suc, ◌+◌, ◌-◌, ◌<◌, ◌≤◌, Bool, List, [], ◌∷◌, ◌++◌, drop, get_or, length, take, refl, sym, ◌∙◌, ap, append_assoc, arith, subst}
use Rattle.std.specs.Prelude.{count_by, flat_map}
use Rattle.std.specs.List.{range_with_len}
use Rattle.std.proofs.lemmas.List.FromFn.{length-range_with_len}
use Rattle.std.proofs.lemmas.List.{length-map, map-append, take-map, take_more}
use Rattle.std.proofs.lemmas.List.Sums.{sum_by-append}
use Rattle.std.proofs.Math.Seq.{take-add}
use Rattle.account_model.specs.declared.fate.Fate.{Fate}
use Rattle.account_model.specs.declared.fate.Fate.TheVariants.{Kept, Gone, New}
use Rattle.account_model.specs.PlanDiff.{DiffLine, diff_line_text, fated, is_new, is_old, hunk_head, hunk_text, lines_within, point_at}
use Rattle.acct_text.specs.Bytes.{Bytes}
use Rattle.plan_tool.specs.declared.diff.DiffLine.{DiffLine as SomeLine}
use Rattle.plan_tool.specs.declared.hunks.Point.{Point}
use Rattle.plan_tool.specs.SeenDiff.{IsPointOf, hunk_between, lines_in_new, lines_in_old, point_behind, seen_diff, seen_diff_line}

-- of two places the further one has as many lines in front of it or more
pub counts-ordered :
    {X : Type 0} (test : X → Bool) (lines : List X) (start end : ℕ)
    → start ≤ end
    → count_by test (take start lines) ≤ count_by test (take end lines)
counts-ordered test lines start end ordered =
    let more = take (end - start) (drop start lines) in
    let far : end ≡ start + (end - start) = omega (arith, ordered) in
    let whole : count_by test (take end lines)
    ≡ count_by test (take start lines) + count_by test more =
    ap (λ n. count_by test (take n lines)) far
    ∙ ap (count_by test) (take-add start (end - start) lines)
    ∙ sum_by-append _ (take start lines) more in
    omega (arith, whole)

-- a head and the lines behind it
abbrev head_and_lines : List DiffLine → ℕ → ℕ → Bytes
head_and_lines lines start end = hunk_head (point_at lines start) (point_at lines end)
    ++ flat_map diff_line_text (lines_within lines start end)

-- a hunk with a line is its head and its lines
pub hunk-written :
    (lines : List DiffLine) (start end : ℕ)
    → start < end
    → hunk_between lines start end ≡ head_and_lines lines start end
hunk-written lines start end below = by_count (end - start) refl
  where
    by_count :
        (count : ℕ)
        → end - start ≡ count
        → hunk_text lines (range_with_len start count) ≡ head_and_lines lines start end
    by_count zero is = absurd (omega (arith, is, below))
    by_count (suc count) is =
        let size = length-range_with_len (start + 1) count in
        ap (head_and_lines lines start) (omega (arith, size, is, below))

-- a text with the parts of a hunk behind it, one after another
pub parts-joined :
    (text start old between new end lines : Bytes)
    → text ++ start ++ old ++ between ++ new ++ end ++ lines
    ≡ text ++ (start ++ old ++ between ++ new ++ end ++ lines)
parts-joined text start old between new end lines = simp append_assoc refl

-- ---- Points

-- how many lines a line is in each file
old-counted : (line : DiffLine) → count_by is_old (line ∷ []) ≡ lines_in_old line.fate
old-counted line = by_fate line.fate
  where
    by_fate : (fate : Fate) → count_by is_old (fated fate line.line ∷ []) ≡ lines_in_old fate
    by_fate Kept = refl
    by_fate Gone = refl
    by_fate New = refl

new-counted : (line : DiffLine) → count_by is_new (line ∷ []) ≡ lines_in_new line.fate
new-counted line = by_fate line.fate
  where
    by_fate : (fate : Fate) → count_by is_new (fated fate line.line ∷ []) ≡ lines_in_new fate
    by_fate Kept = refl
    by_fate Gone = refl
    by_fate New = refl

-- the point behind one line more
pub point-more :
    (lines : List SomeLine) (point : Point) (line : SomeLine)
    → point.place < length lines
    → IsPointOf (seen_diff lines) point
    → IsPointOf (seen_diff lines)
    (point_behind point (seen_diff_line (get_or lines point.place line)))
point-more lines point line inside is =
    let at = point.place in
    let one = seen_diff_line (get_or lines at line) in
    let size = length-map lines seen_diff_line in
    let more : take (at + 1) (seen_diff lines) ≡ take at (seen_diff lines) ++ one ∷ [] =
    take-map seen_diff_line (at + 1) lines
    ∙ ap seen_diff (take_more lines at line inside)
    ∙ map-append seen_diff_line (take at lines) (get_or lines at line ∷ [])
    ∙ ap (λ front. front ++ one ∷ []) (sym (take-map seen_diff_line at lines)) in
    let old = ap (count_by is_old) more
    ∙ sum_by-append _ (take at (seen_diff lines)) (one ∷ []) in
    let new = ap (count_by is_new) more
    ∙ sum_by-append _ (take at (seen_diff lines)) (one ∷ []) in
    record {
      inside = omega (arith, size, inside);
      old = omega (arith, old, is.old, old-counted one);
      new = omega (arith, new, is.new, new-counted one);
    }

-- so it is with a point that is said to be behind that line
pub point-moved :
    (lines : List SomeLine) (point next : Point) (at : ℕ) (line : SomeLine)
    → next ≡ point_behind point (seen_diff_line (get_or lines at line))
    → point.place ≡ at
    → at < length lines
    → IsPointOf (seen_diff lines) point
    → IsPointOf (seen_diff lines) next
point-moved lines point next at line behind is_at inside is =
    subst (IsPointOf (seen_diff lines))
    (ap (λ n. point_behind point (seen_diff_line (get_or lines n line))) is_at ∙ sym behind)
    (point-more lines point line (omega (arith, is_at, inside)) is)
