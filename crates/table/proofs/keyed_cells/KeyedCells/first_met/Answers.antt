use Rattle.std.proofs.Common.{◌≡◌, ◌∙◌, ℕ, ◌+◌, List, [], ◌∷◌, drop, ap, refl, sym, subst, arith, rules}
use Rattle.std.proofs.Math.ListN.{drop_of_length-le}
use Rattle.std.specs.Prelude.{Option}
use Rattle.account_model.specs.Edits as model
use Rattle.account_model.specs.RecordEdits.{IsWrittenEdit}
use Rattle.line_edits.specs.SeenEdits.{seen_edit, seen_edits}
use Rattle.line_edits.proofs.EditLists.{edit-at, seen-from}
use Rattle.acct_tables.specs.Cells.{ArePlaced}
use Rattle.table.specs.FirstMet.{AreAsked}
use Rattle.table.specs.Met.{IsEditedAt, earlier, first_in, has_met}
use Rattle.table.proofs.MetRecords.{earlier-joined, earlier-none, met-more, met-none, none-told, only-edited}
use Rattle.table.proofs.SettledEdits.{settled-no_earlier}
use Rattle.table.proofs.keyed_cells.KeyedCells.first_met.Goals as goal

-- no places are told yet
pub edits-init : goal.edits-init
edits-init g c = record {
  first = refl;
  asked = search rules;
  places = none-told g.R.TableRecord.format c.args.self.now
      (seen_edits g.R.EditedRecord.becomes c.args.edits.now) c.new.result.items c.new.ensures.items;
  same = refl;
}

pub met_after-requires-clause-written : goal.met_after-requires-clause-written
met_after-requires-clause-written g c =
    edit-at g.R.EditedRecord.becomes (IsWrittenEdit g.R.TableRecord.format) c.args.edits.now
    c.edits.edit-index c.edit-item.result c.requires (omega arith) c.edit-item.is

pub met_after-requires-clause-asked : goal.met_after-requires-clause-asked
met_after-requires-clause-asked g c =
    subst (λ cells. AreAsked g.R.TableRecord.format g.R.KeyedRecord.keys g.R.EditedRecord.becomes cells
    c.edits.met) (sym c.edits.invariant.same) c.edits.invariant.asked

-- the place of the next edit isn't lower
pub edits-preserved-then-is_settled : goal.edits-preserved-then-is_settled
edits-preserved-then-is_settled g c = record {
  first =
      let format = g.R.TableRecord.format in
      let becomes = g.R.EditedRecord.becomes in
      let cells = c.args.self.now in
      let edits = c.args.edits.now in
      let index = c.edits.edit-index in
      let edit = c.edit-item.result in
      let first = c.edits.met.place in
      let place : List (model.Edit g.row.R.Denot) → Option ℕ =
      λ edits. first_in (has_met format edits cells) cells in
      let here = place (seen_edit becomes edit ∷ []) in
      let later = place (seen_edits becomes (drop (index + 1) edits)) in
      let placed = subst ArePlaced c.self.view_is c.self.invariant.placed in
      let settled : earlier first here ≡ first =
      settled-no_earlier format g.R.KeyedRecord.keys cells becomes
      g.met.R.TableRecord.is_line_format.same (seen_edit becomes edit) c.edits.met
      c.edits.invariant.asked
      (c.is_settled.ensures c.if-is_settled.true) in
      ap (λ first. earlier first later) (sym settled)
      ∙ earlier-joined first here later
      ∙ ap (earlier first)
      (sym (ap place (seen-from becomes edits index edit (omega arith) c.edit-item.is)
      ∙ met-more format cells g.met.R.TableRecord.is_line_format.same (seen_edit becomes edit)
      (seen_edits becomes (drop (index + 1) edits)) placed))
      ∙ c.edits.invariant.first;
  asked = c.edits.invariant.asked;
  places = c.edits.invariant.places;
  same = c.edits.invariant.same;
}

-- the place of the next edit, or a lower one
pub edits-preserved : goal.edits-preserved
edits-preserved g c =
    let format = g.R.TableRecord.format in
    let becomes = g.R.EditedRecord.becomes in
    let cells = c.args.self.now in
    let edits = c.args.edits.now in
    let index = c.edits.edit-index in
    let edit = c.edit-item.result in
    let same = c.edits.invariant.same in
    let met = c.in_ok-met.ensures {u = tt} in
    record {
      first =
          let first = c.edits.met.place in
          let place : List (model.Edit g.row.R.Denot) → Option ℕ =
          λ edits. first_in (has_met format edits cells) cells in
          let here = place (seen_edit becomes edit ∷ []) in
          let later = place (seen_edits becomes (drop (index + 1) edits)) in
          let placed = subst ArePlaced c.self.view_is c.self.invariant.placed in
          ap (λ first. earlier first later)
          (met.place
          ∙ ap (λ cells. earlier first
          (first_in (has_met format (seen_edit becomes edit ∷ []) cells) cells)) same)
          ∙ earlier-joined first here later
          ∙ ap (earlier first)
          (sym (ap place (seen-from becomes edits index edit (omega arith) c.edit-item.is)
          ∙ met-more format cells g.met.R.TableRecord.is_line_format.same (seen_edit becomes edit)
          (seen_edits becomes (drop (index + 1) edits)) placed))
          ∙ c.edits.invariant.first;
      asked = subst (λ cells. AreAsked format g.R.KeyedRecord.keys becomes cells c.in_ok-met.met) same
          met.asked;
      places = only-edited format cells becomes edits index edit c.in_ok-met.met.places.items
          (omega arith) c.edit-item.is
          (subst (λ cells. IsEditedAt format (seen_edit becomes edit) cells
          c.in_ok-met.met.places.items) same met.places);
      same = c.met_after.ensures.same ∙ same;
    }

-- no edit is left
pub returns : goal.returns
returns g c =
    let format = g.R.TableRecord.format in
    let becomes = g.R.EditedRecord.becomes in
    let cells = c.args.self.now in
    let edits = c.args.edits.now in
    let first = c.edits.met.place in
    let place : List (model.Edit g.row.R.Denot) → Option ℕ =
    λ edits. first_in (has_met format edits cells) cells in
    record {
      place = sym (ap (λ left. earlier first (place (seen_edits becomes left)))
          (drop_of_length-le edits (omega arith))
          ∙ ap (earlier first) (met-none format cells cells)
          ∙ earlier-none first)
          ∙ c.edits.invariant.first;
      places = c.edits.invariant.places;
      same = c.edits.invariant.same;
    }
