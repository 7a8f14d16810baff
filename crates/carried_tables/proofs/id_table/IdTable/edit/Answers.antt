use Rattle.std.proofs.Common.{◌≡◌, ◌∙◌, [], drop, take, ap, sym, subst}
use Rattle.std.specs.Prelude.{is_some}
use Rattle.std.proofs.lemmas.Bool.{not-false}
use Rattle.account_model.specs.RecordEdits.{IsWrittenEdit}
use Rattle.line_edits.specs.SeenEdits.{seen_edits}
use Rattle.line_edits.proofs.EditLists.{edits-from, edits-up_to, no-edits}
use Rattle.table.specs.TableEdits.{AreWritten, table_by}
use Rattle.carried_tables.proofs.EditedTables.{table-there, table-two}
use Rattle.table.proofs.TableLemmas.{no-edit}
use Rattle.carried_tables.proofs.id_table.IdTable.edit.Goals as goal

-- the first of those left may print what all may
pub edit_one-requires-clause-written : goal.edit_one-requires-clause-written
edit_one-requires-clause-written g c =
    let format = g.R.TableRecord.format in
    let becomes = g.R.EditedRecord.becomes in
    subst (AreWritten format becomes) (sym c.split_at.ensures.front)
    (edits-up_to becomes (IsWrittenEdit format) c.edits.left.now 1 c.edits.invariant.written)

-- it is made, and the others are left
pub edits-preserved : goal.edits-preserved
edits-preserved g c =
    let format = g.R.TableRecord.format in
    let becomes = g.R.EditedRecord.becomes in
    let left = c.edits.left.now in
    let before = c.edits.self in
    let made = c.in_ok-edit_one.ensures
    ∙ ap (λ one. table_by format becomes one before) c.split_at.ensures.front in
    record {
      made = ap (λ later. table_by format becomes later c.edit_one.new.self)
          c.split_at.ensures.back
          ∙ ap (table_by format becomes (drop 1 left)) made
          ∙ table-two becomes format left before g.met.R.EditedRecord.no_blank
          c.edits.invariant.written
          ∙ c.edits.invariant.made;
      there = ap is_some made ∙ table-there format (seen_edits becomes (take 1 left)) before
          c.edits.invariant.there;
      written = subst (AreWritten format becomes) (sym c.split_at.ensures.back)
          (edits-from becomes (IsWrittenEdit format) left 1 c.edits.invariant.written);
    }

-- no edit is left
pub returns : goal.returns
returns g c =
    let format = g.R.TableRecord.format in
    let becomes = g.R.EditedRecord.becomes in
    let none : c.edits.left.now ≡ [] =
    no-edits c.edits.left.now (sym c.is_empty.ensures ∙ c.edits-test.false) in
    let edited = c.in_ok-gather.ensures
    ∙ no-edit format c.edits.self
    ∙ ap (λ left. table_by format becomes left c.edits.self) (sym none)
    ∙ c.edits.invariant.made in
    record {
      edited = edited;
      left = λ same.
          edited
          ∙ ap (λ edits. table_by format becomes edits c.args.self.now)
          (no-edits c.args.edits.now (sym c.is_empty-2.ensures ∙ not-false _ same))
          ∙ sym (no-edit format c.args.self.now);
    }
