use Rattle.std.proofs.Common.{◌++◌, ◌∙◌, ap, ap₂, append_assoc, sym}
use Rattle.account_model.specs.PlanTexts.{size_line}
use Rattle.plan_tool.specs.SeenChanges.{seen_change}
use Rattle.plan_tool.proofs.MappedLists.{texts-more}
use Rattle.plan_tool.proofs.planned.push_sizes.Goals as goal

pub loop-change-preserved : goal.loop-change-preserved
loop-change-preserved c =
    let more = texts-more size_line seen_change c.as_slice-change-items.result.now
    c.loop-change.change-index _ c.loop-change-test.true in
    c.in_ok-push.ensures.ok
    ∙ ap₂ (λ front last. front ++ last) c.loop-change.invariant
    (c.as_slice.ensures ∙ c.in_ok-line.ensures)
    ∙ append_assoc c.args.out.now _ _ ∙ ap (λ text. c.args.out.now ++ text) (sym more)
