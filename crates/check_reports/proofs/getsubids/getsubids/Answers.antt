use Rattle.std.proofs.Common.{rules, ◌≡◌, ◌∙◌, ℕ, List, length, map, sym, ap, subst}
use Rattle.std.specs.Prelude.{vec_len}
use Rattle.std.proofs.lemmas.Result.{IfOk-weaker}
use Rattle.account_model.specs.declared.refusal.Refusal.TheVariants.{NoRanges}
use Rattle.account_model.specs.Action.{reports}
use Rattle.account_model.specs.Getsubids.{getsubids, range_lines_from, ranges_of_user}
use Rattle.account_model.specs.Request.{operand}
use Rattle.tool_answers.specs.Decisions.{refusal_output}
use Rattle.tool_answers.specs.declared.decision.Decision.TheVariants.{Refuse}
use Rattle.subid_ranges.specs.Owned.{first_and_count}
use Rattle.check_reports.specs.Decided.{DecidesBy}
use Rattle.check_reports.specs.Listed.{range_for}
use Rattle.check_reports.proofs.RangeLines.{lines-of-ranges, none-listed, none-refuses, ranges-found, some-listed}
use Rattle.check_reports.proofs.getsubids.getsubids.Goals as goal

pub returns-then-is_empty : goal.returns-then-is_empty
returns-then-is_empty c =
    let request = c.args.asked.now in
    let files = c.args.files.now in
    let found =
    ranges-found request files c.listed_file.result.now c.operand-user.result.now c.in_ok-uid.uid
    c.listed_file.ensures c.operand-user.ensures c.in_ok-uid.ensures in
    let counted : length c.in_ok-ranges.ranges.items ≡ vec_len c.in_ok-ranges.ranges =
    search rules in
    let none = none-listed _ c.in_ok-ranges.ranges.items (vec_len c.in_ok-ranges.ranges)
    (c.in_ok-ranges.ensures ∙ ap (map first_and_count) found) counted
    ∙ sym c.is_empty.ensures ∙ c.if-is_empty.true in
    let named : c.in_ok-of.field-0 ≡ operand request = c.in_ok-of.ensures
    ∙ c.operand-user.ensures in
    IfOk-weaker c.refuse.result _ _ (λ decision is.
    none-refuses request.tool request files decision none
    (is ∙ ap (λ (name : List ℕ). Refuse (NoRanges name)
    (refusal_output c.tool.result (NoRanges name))) named
    ∙ ap (λ tool. Refuse (NoRanges (operand request))
    (refusal_output tool (NoRanges (operand request)))) c.tool.ensures))
    c.refuse.ensures

pub returns : goal.returns
returns c =
    let request = c.args.asked.now in
    let files = c.args.files.now in
    let user = c.operand-user.result.now in
    let found = ranges-found request files c.listed_file.result.now user c.in_ok-uid.uid
    c.listed_file.ensures c.operand-user.ensures c.in_ok-uid.ensures in
    let pairs = c.in_ok-ranges.ensures ∙ ap (map first_and_count) found in
    let counted : length c.in_ok-ranges.ranges.items ≡ vec_len c.in_ok-ranges.ranges =
    search rules in
    let some =
    none-listed _ c.in_ok-ranges.ranges.items (vec_len c.in_ok-ranges.ranges) pairs counted
    ∙ sym c.is_empty.ensures ∙ c.if-is_empty.false in
    let lines : c.in_ok-lines.lines
    ≡ range_lines_from 0 (operand request) (ranges_of_user request files) =
    c.in_ok-lines.ensures
    ∙ ap (λ ranges. range_lines_from 0 user (map (range_for user) ranges)) (c.as_slice.ensures.value
    ∙ pairs)
    ∙ lines-of-ranges user 0 (ranges_of_user request files)
    ∙ ap (λ (name : List ℕ). range_lines_from 0 name (ranges_of_user request files))
    c.operand-user.ensures in
    subst (λ (out : List ℕ). DecidesBy request.tool
    (reports (getsubids request files).refusals 0 out) files c.told.result) lines
    (c.told.ensures request.tool (getsubids request files).refusals files
    (some-listed request files some))
