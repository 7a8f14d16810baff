use Rattle.std.proofs.Common.{ap, length, List, arith}
use Rattle.std.proofs.lemmas.List.{drop_all, length-append}
use Rattle.intent_file.specs.Intent.{NewTable, end_part, table_parts}
use Rattle.intent_file.proofs.SizeLemmas.{body-most, parts-length}
use Rattle.intent_file.proofs.header.total_of.Goals as goal

pub tables-init : goal.tables-init
tables-init c =
    let whole = length-append (table_parts c.args.tables.now) end_part in omega (arith, whole)

pub overflow_add-total : goal.overflow_add-total
overflow_add-total c =
    let most = body-most c.args.tables.now c.requires.in_order c.requires.within_limit in
    let whole = c.tables.invariant in
    let part = c.in_ok-total.ensures in
    let step = parts-length c.args.tables.now c.tables.table-index c.table-item.result (omega arith)
    c.table-item.is in
    omega (arith, most, whole, part, step)

pub tables-preserved : goal.tables-preserved
tables-preserved c =
    let whole = c.tables.invariant in
    let part = c.in_ok-total.ensures in
    let step = parts-length c.args.tables.now c.tables.table-index c.table-item.result (omega arith)
    c.table-item.is in
    omega (arith, whole, part, step)

pub returns : goal.returns
returns c =
    let whole = c.tables.invariant in
    let none = ap (λ (tables : List NewTable). length (table_parts tables))
    (drop_all c.tables.table-index c.args.tables.now (omega arith)) in
    omega (arith, whole, none)
