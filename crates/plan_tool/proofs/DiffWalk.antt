-- The walk over the old lines: each takes one more step of what lies between the old and the new lines
-- (`walk-on`), and passes by no more new ones than are left (`passed-inside`).
use Rattle.std.proofs.Common.{◌≡◌, ℕ, ◌+◌, ◌≤◌, List, ◌∷◌, ◌++◌, drop, length, sym, ◌∙◌, ap, append_assoc, arith}
use Rattle.std.specs.Prelude.{Option, None, Some, position}
use Rattle.std.proofs.lemmas.List.{drop-drop, length-drop}
use Rattle.std.proofs.lemmas.List.Quantifiers.{position-Some}
use Rattle.acct_text.specs.Lines.{Line}
use Rattle.account_model.specs.PlanDiff.{DiffLine, lines_between, lines_left, lines_until, same_line}
use Rattle.plan_tool.specs.SeenDiff.{passed_by}

module _ (news : List Line) (passed : ℕ) (line : Line) where
  -- what is left behind the place where a line is found
  left-behind :
      (found : Option ℕ)
      → drop (passed + passed_by found) news ≡ lines_left found (drop passed news)
  left-behind None = ap (λ count. drop count news) (omega arith)
  left-behind (Some place) = sym (drop-drop (place + 1) passed news)

  -- no more are passed by than there are
  pub passed-inside :
      (found : Option ℕ)
      → found ≡ position (same_line line) (drop passed news)
      → passed ≤ length news
      → passed + passed_by found ≤ length news
  passed-inside None is inside = omega (arith, inside)
  passed-inside (Some place) is inside =
      let below = position-Some (same_line line) (drop passed news) place line (sym is) in
      omega (arith, below.0, length-drop passed news, inside)

  -- one old line more
  pub walk-on :
      (found : Option ℕ) (olds rest : List Line) (before after whole : List DiffLine)
      → olds ≡ line ∷ rest
      → found ≡ position (same_line line) (drop passed news)
      → before ++ lines_between olds (drop passed news) ≡ whole
      → after ≡ before ++ lines_until line found (drop passed news)
      → after ++ lines_between rest (drop (passed + passed_by found) news) ≡ whole
  walk-on found olds rest before after whole first is so_far step =
      let left = drop passed news in
      ap (λ lines. lines ++ lines_between rest (drop (passed + passed_by found) news)) step
      ∙ append_assoc before (lines_until line found left) _
      ∙ ap (λ behind. before ++ (lines_until line found left ++ lines_between rest behind))
      (left-behind found)
      ∙ ap (λ at. before
      ++ (lines_until line at left ++ lines_between rest (lines_left at left))) is
      ∙ ap (λ lines. before ++ lines_between lines left) (sym first)
      ∙ so_far
