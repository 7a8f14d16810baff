use Rattle.std.proofs.Common.{◌∙◌, [], ◌∷◌, ap}
use Rattle.line_edits.specs.SeenEdits.{seen_edit}
use Rattle.line_edits.specs.SubidChanges.{subid_becomes}
use Rattle.carried_tables.proofs.CutLemmas.{alone-seen}
use Rattle.carried_tables.proofs.range_table.RangeTable.edit_one.Goals as goal

-- the edit cuts
pub cut-requires-clause-by : goal.cut-requires-clause-by
cut-requires-clause-by c = record {
  alone = alone-seen c.args.one.now c.index-one-0.result c.requires.single c.index-one-0.is
      ∙ ap (λ edit. seen_edit subid_becomes edit ∷ []) c.in-Become.is;
  cuts = c.in-Cut.is;
}
