use Rattle.std.proofs.Common.{◌≡◌, true, length}
use Rattle.std.specs.Prelude.{is_some}
use Rattle.account_model.specs.Records.{subid_format}
use Rattle.table.specs.TableEdits.{AreWritten, table_by}
use Rattle.line_edits.specs.SubidChanges.{subid_becomes}
use Rattle.carried_tables.proofs.range_table.RangeTable.edit_in_place.Given as goal

-- the edits left make of the file what all make of the first one, which is there
abbrev pub invariant-edits : goal.invariant-edits
invariant-edits l = record {
  made : table_by subid_format subid_becomes l.left l.self
      ≡ table_by subid_format subid_becomes l.edits l.initial.self;
  there : is_some l.self ≡ true;
  written : AreWritten subid_format subid_becomes l.left;
}

abbrev pub decreases-edits : goal.decreases-edits
decreases-edits l = length l.left
