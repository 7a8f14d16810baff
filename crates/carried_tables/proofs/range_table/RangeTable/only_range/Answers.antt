use Rattle.std.proofs.Common.{◌∙◌, ap, sym, rules}
use Rattle.std.specs.Prelude.{filter}
use Rattle.account_model.specs.Format.{is_named}
use Rattle.account_model.specs.Records.{subid_format}
use Rattle.account_model.specs.Tables.{table_records}
use Rattle.carried_tables.proofs.OwnedRanges.{only-popped}
use Rattle.carried_tables.proofs.range_table.RangeTable.only_range.Goals as goal

-- no range has the number, and one alone the name
pub returns : goal.returns
returns c =
    let cut = c.args.cut.now in
    let ranges = table_records subid_format c.args.self.now in
    only-popped cut.owner cut.uid ranges c.in_ok-ranges.ranges.items c.pop.new.self.items
    c.pop.result (sym c.has_number.ensures ∙ c.if-has_number.false)
    (c.in_ok-ranges.ensures {u = tt}
    ∙ ap (λ file. filter (is_named subid_format c.as_slice.result.now)
    (table_records subid_format file)) c.self.view_is
    ∙ ap (λ name. filter (is_named subid_format name) ranges) c.as_slice.ensures)
    (search rules) c.pop.ensures.items
