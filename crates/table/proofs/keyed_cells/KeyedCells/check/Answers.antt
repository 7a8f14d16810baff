use Rattle.std.proofs.Common.{◌≡◌, ◌∙◌, ap, subst, sym}
use Rattle.account_model.specs.Format.{records_of}
use Rattle.line_edits.specs.SeenEdits.{seen_edits}
use Rattle.acct_tables.specs.Cells.{cells_from, lines_now}
use Rattle.table.specs.Met.{AreEditedAt, first_in, has_met}
use Rattle.table.specs.TableEdits.{multiple_by}
use Rattle.table.proofs.keyed_cells.KeyedCells.check.Goals as goal
use Rattle.table.proofs.keyed_cells.KeyedCells.check.Goals.{then-edits-ge-MANY+in_ok-index, else-edits-ge-MANY}

pub name_met-requires-clause-first : goal.name_met-requires-clause-first
name_met-requires-clause-first g c =
    let edits = seen_edits g.R.EditedRecord.becomes c.args.edits.now in
    let met = c.in_ok-met.ensures {u = tt} in
    sym (met.place
    ∙ ap (λ cells. first_in (has_met g.R.TableRecord.format edits cells) cells)
    (sym c.first_met.ensures.same))

pub kept_places-requires : goal.kept_places-requires
kept_places-requires g c =
    let edits = seen_edits g.R.EditedRecord.becomes c.args.edits.now in
    let met = c.in_ok-met.ensures {u = tt} in
    subst (λ cells. AreEditedAt g.R.TableRecord.format edits cells c.in_ok-met.met.places.items)
    (sym c.first_met.ensures.same) met.places

-- the index leaves what stands there
pub returns : goal.returns
returns g c =
    let format = g.R.TableRecord.format in
    let becomes = g.R.EditedRecord.becomes in
    let edits = c.args.edits.now in
    let indexed : c.if-edits-ge-MANY.self ≡ c.args.self.now = elim c.if-edits-ge-MANY.branch [
      | then-edits-ge-MANY+in_ok-index w ↦ w.self-is ∙ w.index.ensures
      | else-edits-ge-MANY w ↦ w.self-is
    ] in
    let same = c.first_met.ensures.same ∙ indexed in
    record {
      multiple = c.in_ok-name_met.ensures {u = tt}
          ∙ ap (λ cells. multiple_by format becomes edits (records_of format (lines_now cells))) same;
      places = subst (λ cells. AreEditedAt format (seen_edits becomes edits)
          (cells_from 0 (lines_now cells)) c.kept_places.result.items) same c.kept_places.ensures;
      same = same;
    }
