use Rattle.std.proofs.Common.{◌∙◌, Bool, ap, sym}
use Rattle.std.specs.Prelude.{◌||◌}
use Rattle.std.specs.List.{list_any}
use Rattle.account_model.specs.Format.{has_named}
use Rattle.account_model.specs.Records.{subid_format}
use Rattle.account_model.specs.Tables.{table_records}
use Rattle.carried_tables.specs.RangeNumbers.{is_numbered}
use Rattle.carried_tables.proofs.OwnerLemmas.{owned-either-way}
use Rattle.carried_tables.proofs.range_table.RangeTable.has_owner.Goals as goal

-- a range has the name as its owner
pub returns-then-has : goal.returns-then-has
returns-then-has c =
    let name = c.args.name.now in
    let ranges = table_records subid_format c.args.self.now in
    c.if-has.true
    ∙ ap (λ (named : Bool). named || list_any (is_numbered c.args.uid) ranges)
    (sym c.if-has.true ∙ c.has.ensures
    ∙ ap (λ file. has_named subid_format name (table_records subid_format file)) c.self.view_is)
    ∙ owned-either-way name c.args.uid ranges

-- none has it, so that the text of the UID decides
pub returns-else-has : goal.returns-else-has
returns-else-has c =
    let name = c.args.name.now in
    let ranges = table_records subid_format c.args.self.now in
    c.has_number.ensures
    ∙ ap (λ (named : Bool). named || list_any (is_numbered c.args.uid) ranges)
    (sym c.if-has.false ∙ c.has.ensures
    ∙ ap (λ file. has_named subid_format name (table_records subid_format file)) c.self.view_is)
    ∙ owned-either-way name c.args.uid ranges
