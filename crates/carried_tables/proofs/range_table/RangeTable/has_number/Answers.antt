use Rattle.std.proofs.Common.{◌∙◌, ap, sym}
use Rattle.std.specs.Prelude.{decimal}
use Rattle.std.specs.List.{list_any}
use Rattle.account_model.specs.Format.{has_named}
use Rattle.account_model.specs.Records.{subid_format}
use Rattle.account_model.specs.Tables.{table_records}
use Rattle.carried_tables.specs.RangeNumbers.{is_numbered}
use Rattle.carried_tables.proofs.OwnedRanges.{none-numbered}
use Rattle.carried_tables.proofs.OwnerLemmas.{owned-named}
use Rattle.carried_tables.proofs.range_table.RangeTable.has_number.Goals as goal

-- the UID isn't known
pub returns-in_default : goal.returns-in_default
returns-in_default c =
    let ranges = table_records subid_format c.args.self.now in
    sym (none-numbered ranges) ∙ ap (λ uid. list_any (is_numbered uid) ranges) (sym c.in_default.is)

-- its text is looked for as a name
pub returns : goal.returns
returns c =
    let ranges = table_records subid_format c.args.self.now in
    c.has.ensures
    ∙ ap (λ file. has_named subid_format c.as_bytes.result.now (table_records subid_format file))
    c.self.view_is
    ∙ ap (λ owner. has_named subid_format owner ranges)
    (c.as_bytes.ensures.value ∙ c.format.ensures.text)
    ∙ owned-named (decimal c.in-Some.uid) ranges
    ∙ ap (λ uid. list_any (is_numbered uid) ranges) (sym c.in-Some.is)
