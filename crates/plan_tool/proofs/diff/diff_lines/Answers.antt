use Rattle.std.proofs.Common.{◌≡◌, ℕ, ◌-◌, ◌++◌, ◌∙◌, List, ap, arith, drop, length, map, sym, take}
use Rattle.std.proofs.lemmas.List.{drop-map, length-map, take_rest}
use Rattle.account_model.specs.declared.fate.Fate.TheVariants.{New}
use Rattle.account_model.specs.PlanDiff.{diff_lines, fated, lines_between, lines_until}
use Rattle.acct_tables.specs.SeenLines.{seen_line}
use Rattle.acct_tables.specs.declared.lines.FileLine.{FileLine}
use Rattle.plan_tool.specs.SeenDiff.{seen_diff, seen_lines}
use Rattle.plan_tool.proofs.DiffWalk.{passed-inside, walk-on}
use Rattle.plan_tool.proofs.diff.diff_lines.Goals as goal

-- the new lines that are left, as they are seen
seen_left :
    (items : List FileLine) (passed : ℕ)
    → seen_lines (take (length items - passed) (drop passed items)) ≡ drop passed (seen_lines items)
seen_left items passed =
    ap seen_lines (take_rest items passed) ∙ sym (drop-map seen_line passed items)

pub olds-preserved : goal.olds-preserved
olds-preserved c =
    let items = c.as_slice-news.result.now in
    let news = seen_lines items in
    let passed = c.olds.passed in
    let line = seen_line c.in-Some.line in
    let found = c.found_behind-found.result in
    let count = length-map items seen_line in
    let inside = passed-inside news passed line found c.found_behind-found.ensures
    (omega (arith, count, c.olds.invariant.inside)) in
    let before = seen_diff c.olds.lines.items in
    let after = seen_diff c.push_until.new.lines.items in
    let step : after ≡ before ++ lines_until line found (drop passed news) =
    c.in_ok-push_until.ensures
    ∙ ap (λ left. before ++ lines_until line found left) (seen_left items passed) in
    record {
      inside = rw c.passed_by-passed.ensures (omega (arith, count, inside));
      whole = rw c.passed_by-passed.ensures (walk-on news passed line found c.olds.olds
          c.take.new.self before after (diff_lines c.args.old.now c.args.new.now)
          c.in-Some.ensures.taken c.found_behind-found.ensures c.olds.invariant.whole step);
    }

pub returns : goal.returns
returns c =
    let items = c.as_slice-news.result.now in
    let before = seen_diff c.olds.lines.items in
    let left = drop c.olds.passed (seen_lines items) in
    c.in_ok-push_news.ensures
    ∙ ap (λ lines. before ++ map (fated New) lines) (seen_left items c.olds.passed)
    ∙ ap (λ olds. before ++ lines_between olds left) (sym c.in_default.ensures.taken)
    ∙ c.olds.invariant.whole
