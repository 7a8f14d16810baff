use Rattle.std.proofs.Common.{◌∙◌, ap, drop, sym}
use Rattle.std.specs.Prelude.{position}
use Rattle.std.proofs.lemmas.List.{drop-map, take_rest}
use Rattle.account_model.specs.PlanDiff.{same_line}
use Rattle.acct_tables.specs.SeenLines.{seen_line}
use Rattle.plan_tool.specs.SeenDiff.{place_told, seen_lines}
use Rattle.plan_tool.proofs.LinePlaceLemmas.{none-behind}
use Rattle.plan_tool.proofs.MappedLists.{position-map}
use Rattle.plan_tool.proofs.diff.found_behind.Goals as goal

pub returns-then-may_stand : goal.returns-then-may_stand
returns-then-may_stand c =
    let test = same_line (seen_line c.args.line) in
    let left = drop c.args.passed c.args.news.now in
    c.place_of.ensures
    ∙ ap (position (λ other. test (seen_line other))) (take_rest c.args.news.now c.args.passed)
    ∙ sym (position-map seen_line test left)
    ∙ ap (position test) (sym (drop-map seen_line c.args.passed c.args.news.now))

pub returns-else-may_stand : goal.returns-else-may_stand
returns-else-may_stand c =
    none-behind (seen_lines c.args.news.now) (place_told c.args.places.now) c.args.passed
    (seen_line c.args.line) c.requires.known (sym c.may_stand.ensures ∙ c.if-may_stand.false)
