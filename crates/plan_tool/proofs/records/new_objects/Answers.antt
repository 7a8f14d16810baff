use Rattle.std.proofs.Common.{◌∙◌, ap, map}
use Rattle.std.specs.Prelude.{filter_map, flat_map}
use Rattle.std.proofs.lemmas.List.{take_all}
use Rattle.account_model.specs.PlanJson.{new_record}
use Rattle.plan_tool.specs.SeenDiff.{objects_of, seen_diff, seen_diff_line}
use Rattle.plan_tool.proofs.RecordLemmas.{objects-are}
use Rattle.plan_tool.proofs.records.new_objects.Goals as goal

pub returns : goal.returns
returns g c =
    let format = g.R.TableRecord.format in
    let object = g.R.ToldRecord.object in
    let items = c.as_slice-line-items.result.now in
    c.loop-line.invariant
    ∙ ap (λ lines. flat_map (objects_of format object) (map seen_diff_line lines))
    (take_all c.loop-line.line-index items c.loop-line-test.false)
    ∙ objects-are format object (seen_diff items)
    ∙ ap (λ lines. map object (filter_map (new_record format) lines))
    (ap seen_diff c.as_slice-line-items.ensures.value ∙ c.in_ok-lines.ensures)
