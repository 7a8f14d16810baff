use Rattle.std.proofs.Common.{◌+◌, ◌-◌, ◌∙◌, ap, drop, sym, take}
use Rattle.std.specs.List.{list_any}
use Rattle.std.proofs.lemmas.List.{drop-map, take-map, take_min, take_rest}
use Rattle.tool_answers.proofs.RowLemmas.{any-map}
use Rattle.account_model.specs.PlanDiff.{is_change}
use Rattle.plan_tool.specs.SeenDiff.{seen_diff_line}
use Rattle.plan_tool.proofs.hunks.is_shown.Goals as goal

pub returns : goal.returns
returns c =
    let lines = c.args.lines.now in
    let start = c.args.place - 3 in
    let end = c.args.place + 4 in
    simp (c.min.ensures, c.saturating_sub.ensures, take_rest, take_min) at c.has_change.ensures
    ∙ sym (any-map seen_diff_line is_change (drop start (take end lines)))
    ∙ ap (list_any is_change) (sym (drop-map seen_diff_line start (take end lines)))
    ∙ ap (λ front. list_any is_change (drop start front)) (sym (take-map seen_diff_line end lines))
