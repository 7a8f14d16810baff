use Rattle.std.proofs.Common.{◌∙◌, ◌+◌, [], ◌∷◌, drop, ap, sym, arith}
use Rattle.std.specs.Prelude.{◌||◌}
use Rattle.std.proofs.Math.ListN.{drop_of_length-le}
use Rattle.std.proofs.lemmas.Bool.{or_left}
use Rattle.account_model.specs.RecordEdits.{IsWrittenEdit}
use Rattle.line_edits.specs.SeenEdits.{seen_edit, seen_edits}
use Rattle.line_edits.proofs.EditLists.{edit-at, seen-from}
use Rattle.table.specs.Met.{meets}
use Rattle.table.proofs.MetRecords.{text-more, text-none}
use Rattle.table.proofs.keyed_cells.KeyedCells.is_met.Goals as goal

pub meets-requires-clause-written : goal.meets-requires-clause-written
meets-requires-clause-written g c =
    edit-at g.R.EditedRecord.becomes (IsWrittenEdit g.R.TableRecord.format) c.args.edits.now
    c.edits.edit-index c.edit-item.result c.requires.written (omega arith) c.edit-item.is

-- the next edit meets it
pub returns-then-branch : goal.returns-then-branch
returns-then-branch g c =
    let format = g.R.TableRecord.format in
    let becomes = g.R.EditedRecord.becomes in
    let edits = c.args.edits.now in
    let index = c.edits.edit-index in
    let edit = c.edit-item.result in
    let cells = c.args.self.now in
    let text = c.args.text.now in
    let later = seen_edits becomes (drop (index + 1) edits) in
    sym (sym c.edits.invariant
    ∙ ap (λ edits. meets format edits cells text)
    (seen-from becomes edits index edit (omega arith) c.edit-item.is)
    ∙ text-more format cells g.met.R.TableRecord.is_line_format.same (seen_edit becomes edit) later
    text
    ∙ or_left (meets format (seen_edit becomes edit ∷ []) cells text) (meets format later cells text)
    (sym (c.in_ok-meets.ensures {u = tt}) ∙ c.if-branch.true))

-- it doesn't
pub edits-preserved : goal.edits-preserved
edits-preserved g c =
    let format = g.R.TableRecord.format in
    let becomes = g.R.EditedRecord.becomes in
    let edits = c.args.edits.now in
    let index = c.edits.edit-index in
    let edit = c.edit-item.result in
    let cells = c.args.self.now in
    let text = c.args.text.now in
    let later = seen_edits becomes (drop (index + 1) edits) in
    sym (ap (λ edits. meets format edits cells text)
    (seen-from becomes edits index edit (omega arith) c.edit-item.is)
    ∙ text-more format cells g.met.R.TableRecord.is_line_format.same (seen_edit becomes edit) later
    text
    ∙ ap (λ here. here || meets format later cells text)
    (sym (c.in_ok-meets.ensures {u = tt}) ∙ c.if-branch.false))
    ∙ c.edits.invariant

-- no edit is left
pub returns : goal.returns
returns g c =
    let format = g.R.TableRecord.format in
    let becomes = g.R.EditedRecord.becomes in
    let edits = c.args.edits.now in
    sym (ap (λ left. meets format (seen_edits becomes left) c.args.self.now c.args.text.now)
    (drop_of_length-le edits (omega arith))
    ∙ text-none format c.args.self.now c.args.text.now)
    ∙ c.edits.invariant
