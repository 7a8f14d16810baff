use Rattle.std.proofs.Common.{◌∙◌, ap, refl, sym}
use Rattle.account_model.specs.Records.{subid_format}
use Rattle.line_edits.specs.SubidChanges.{subid_becomes}
use Rattle.line_edits.proofs.EditLists.{no-edits}
use Rattle.table.proofs.TableLemmas.{no-edit}
use Rattle.table.specs.TableEdits.{table_by}
use Rattle.carried_tables.proofs.range_table.RangeTable.edit.Goals as goal

-- no edits leave the file
pub returns-then-is_empty : goal.returns-then-is_empty
returns-then-is_empty c =
    let file = c.args.self.now in
    record {
      edited = no-edit subid_format file
          ∙ ap (λ edits. table_by subid_format subid_becomes edits file)
          (sym (no-edits c.args.edits.now (sym c.is_empty.ensures ∙ c.if-is_empty.true)));
      left = λ same. refl;
    }
