use Rattle.std.proofs.Common.{◌≡◌, ◌∙◌, [], ◌∷◌, ap, sym, subst}
use Rattle.std.specs.Prelude.{IfSome}
use Rattle.account_model.specs.Edits.Edit.{Become}
use Rattle.account_model.specs.RecordEdits.{IsWrittenEdit}
use Rattle.account_model.specs.Records.{subid_format}
use Rattle.account_model.specs.Tables.{table_after}
use Rattle.line_edits.specs.SeenEdits.{seen_edit}
use Rattle.line_edits.specs.SubidChanges.{subid_becomes}
use Rattle.line_edits.specs.declared.subid_changes.SubidChange.TheVariants.{Rename}
use Rattle.carried_tables.specs.RangeNumbers.{AreNumbersIn}
use Rattle.carried_tables.proofs.NumberLemmas.{numbers-added, numbers-kept}
use Rattle.carried_tables.proofs.range_numbers.numbers_after.Goals as goal

-- the range may be printed
pub add-requires : goal.add-requires
add-requires c =
    subst (λ edit. IsWrittenEdit subid_format (seen_edit subid_becomes edit)) c.in-Add.is
    c.requires.written

-- the numbers are those with the range
pub returns-in_ok-add-in-Add : goal.returns-in_ok-add-in-Add
returns-in_ok-add-in-Add c =
    let file = c.args.table.now in
    let range = c.in-Add.range in
    subst (λ edit. AreNumbersIn (table_after subid_format (seen_edit subid_becomes edit ∷ []) file)
    c.add.new.self) (sym c.in-Add.is)
    (numbers-added range file c.in_ok-numbers-in-Add.numbers c.add.new.self
    (subst (λ edit. IsWrittenEdit subid_format (seen_edit subid_becomes edit)) c.in-Add.is
    c.requires.written)
    c.requires.there c.in_ok-numbers-in-Add.ensures (c.in_ok-add-in-Add.ensures {u = tt}))

-- they stay
pub returns-in-Rename : goal.returns-in-Rename
returns-in-Rename c =
    let file = c.args.table.now in
    let f = subid_becomes (Rename c.in-Rename.field-0 c.in-Rename.field-1) in
    let is : seen_edit subid_becomes c.args.edit.now ≡ Become f =
    ap (seen_edit subid_becomes) c.in-Become.is
    ∙ ap (λ change. Become (subid_becomes change)) c.in-Rename.is in
    subst (λ edit. IfSome c.args.known (AreNumbersIn (table_after subid_format (edit ∷ []) file)))
    (sym is)
    (numbers-kept c.in-Rename.field-0 c.in-Rename.field-1 file c.args.known
    (subst (IsWrittenEdit subid_format) is c.requires.written) c.requires.known)
