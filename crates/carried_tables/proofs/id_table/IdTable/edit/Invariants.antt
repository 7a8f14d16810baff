use Rattle.std.proofs.Common.{◌≡◌, true, length}
use Rattle.std.specs.Prelude.{is_some}
use Rattle.table.specs.TableEdits.{AreWritten, table_by}
use Rattle.carried_tables.proofs.id_table.IdTable.edit.Given as goal

-- the edits left make of the file what all make of the first one, which is there
abbrev pub invariant-edits : goal.invariant-edits
invariant-edits g l = record {
  made : table_by g.R.TableRecord.format g.R.EditedRecord.becomes l.left l.self
      ≡ table_by g.R.TableRecord.format g.R.EditedRecord.becomes l.edits l.initial.self;
  there : is_some l.self ≡ true;
  written : AreWritten g.R.TableRecord.format g.R.EditedRecord.becomes l.left;
}

abbrev pub decreases-edits : goal.decreases-edits
decreases-edits g l = length l.left
