use Rattle.std.proofs.Common.{◌++◌, ◌∷◌, [], ◌∙◌, ap, append_assoc, map, sym, take}
use Rattle.std.proofs.lemmas.List.{take-map}
use Rattle.std.proofs.lemmas.Result.{on_ok_weaker}
use Rattle.account_model.specs.declared.fate.Fate.TheVariants.{Kept, New}
use Rattle.account_model.specs.PlanDiff.{fated, lines_until}
use Rattle.acct_tables.specs.SeenLines.{seen_line}
use Rattle.plan_tool.specs.SeenDiff.{seen_diff, seen_lines}
use Rattle.plan_tool.proofs.diff.push_until.Goals as goal

pub returns-in_ok-push_news-in-Some : goal.returns-in_ok-push_news-in-Some
returns-in_ok-push_news-in-Some c =
    let old = seen_diff c.args.lines.now.items in
    let line = seen_line c.args.old in
    let place = c.in-Some.place in
    let front = map (fated New) (seen_lines (take place c.args.left.now)) in
    let seen = take-map seen_line place c.args.left.now in
    on_ok_weaker c.push_line.result (λ is. is
    ∙ ap (λ lines. lines ++ fated Kept line ∷ []) c.in_ok-push_news-in-Some.ensures
    ∙ append_assoc old front (fated Kept line ∷ [])
    ∙ ap (λ news. old ++ (map (fated New) news ++ fated Kept line ∷ [])) (sym seen)
    ∙ ap (λ found. old ++ lines_until line found (seen_lines c.args.left.now)) (sym c.in-Some.is))
    c.push_line.ensures
