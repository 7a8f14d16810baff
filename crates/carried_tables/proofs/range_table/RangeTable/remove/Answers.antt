use Rattle.std.proofs.Common.{◌∙◌, [], ◌∷◌, ap, sym}
use Rattle.std.specs.Prelude.{None}
use Rattle.std.proofs.lemmas.Result.{on_ok_weaker}
use Rattle.account_model.specs.Edits.Edit.{Become}
use Rattle.account_model.specs.Records.{subid_format}
use Rattle.account_model.specs.Tables.{table_after}
use Rattle.line_edits.specs.SubidChanges.{subid_becomes}
use Rattle.line_edits.specs.declared.subid_changes.SubidChange.TheVariants.{Remove}
use Rattle.carried_tables.proofs.OwnerLemmas.{removed-both}
use Rattle.carried_tables.proofs.range_table.RangeTable.remove.Goals as goal

-- the ranges of the number are gone, and then those of the name
pub returns : goal.returns
returns c =
    let name = c.args.name.now in
    let file = c.args.self.now in
    let by_name = Become (subid_becomes (Remove name None)) ∷ [] in
    on_ok_weaker c.remove_named-3.result (λ removed.
    removed
    ∙ ap (table_after subid_format by_name) (c.in_ok-remove_named.ensures
    ∙ ap (λ owner. table_after subid_format (Become (subid_becomes (Remove owner None)) ∷ []) file)
    (c.as_bytes.ensures.value ∙ c.format.ensures.text))
    ∙ removed-both name c.in-Some.uid file
    ∙ ap (λ uid. table_after subid_format (Become (subid_becomes (Remove name uid)) ∷ []) file)
    (sym c.in-Some.is))
    c.remove_named-3.ensures
