use Rattle.std.proofs.Common.{◌≡◌, ◌∙◌, [], drop, take, refl, ap, sym, subst}
use Rattle.std.specs.Prelude.{is_some}
use Rattle.account_model.specs.RecordEdits.{IsWrittenEdit}
use Rattle.account_model.specs.Records.{subid_format}
use Rattle.table.specs.TableEdits.{AreWritten, table_by}
use Rattle.line_edits.specs.SeenEdits.{seen_edits}
use Rattle.line_edits.specs.SubidChanges.{subid_becomes}
use Rattle.line_edits.proofs.EditLists.{edits-from, edits-up_to, no-edits}
use Rattle.carried_tables.proofs.EditedTables.{table-there, table-two}
use Rattle.table.proofs.TableLemmas.{no-edit}
use Rattle.carried_tables.proofs.range_table.RangeTable.edit_in_place.Goals as goal

-- the first of those left may print what all may
pub edit_one-requires-clause-written : goal.edit_one-requires-clause-written
edit_one-requires-clause-written c =
    subst (AreWritten subid_format subid_becomes) (sym c.split_at.ensures.front)
    (edits-up_to subid_becomes (IsWrittenEdit subid_format) c.edits.left.now 1
    c.edits.invariant.written)

-- it is made, and the others are left
pub edits-preserved : goal.edits-preserved
edits-preserved c =
    let left = c.edits.left.now in
    let before = c.edits.self in
    let made = c.in_ok-edit_one.ensures
    ∙ ap (λ one. table_by subid_format subid_becomes one before) c.split_at.ensures.front in
    record {
      made = ap (λ later. table_by subid_format subid_becomes later c.edit_one.new.self)
          c.split_at.ensures.back
          ∙ ap (table_by subid_format subid_becomes (drop 1 left)) made
          ∙ table-two subid_becomes subid_format left before refl c.edits.invariant.written
          ∙ c.edits.invariant.made;
      there = ap is_some made
          ∙ table-there subid_format (seen_edits subid_becomes (take 1 left)) before
          c.edits.invariant.there;
      written = subst (AreWritten subid_format subid_becomes) (sym c.split_at.ensures.back)
          (edits-from subid_becomes (IsWrittenEdit subid_format) left 1 c.edits.invariant.written);
    }

-- no edit is left
pub returns : goal.returns
returns c =
    let none : c.edits.left.now ≡ [] =
    no-edits c.edits.left.now (sym c.is_empty.ensures ∙ c.edits-test.false) in
    no-edit subid_format c.edits.self
    ∙ ap (λ left. table_by subid_format subid_becomes left c.edits.self) (sym none)
    ∙ c.edits.invariant.made
    ∙ ap (table_by subid_format subid_becomes c.args.edits.now) (c.index.ensures ∙ c.self.view_is)
