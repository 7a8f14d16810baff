use Rattle.std.proofs.Common.{◌++◌, ◌∙◌, ap, ap₂, length, arith, sym}
use Rattle.std.specs.Option.{option_to_list}
use Rattle.acct_text.specs.declared.Tab.TheVariants.{Passwd}
use Rattle.plan_tool.specs.SeenChanges.{change_told}
use Rattle.plan_tool.proofs.MappedLists.{filter_map-more}
use Rattle.plan_tool.proofs.changes.changes.Goals as goal

pub tables-preserved : goal.tables-preserved
tables-preserved c =
    let size = ap length c.all-table-items.ensures in
    c.in_ok-push_change.ensures
    ∙ ap₂ (λ front last. front ++ option_to_list last) c.tables.invariant c.change.ensures
    ∙ sym (filter_map-more (change_told c.args.files) c.all-table-items.result c.tables.table-index
    Passwd (omega (arith, size)))
