use Rattle.std.proofs.Common.{◌≡◌, ◌∙◌, [], ◌∷◌, ap, refl, subst, sym}
use Rattle.std.specs.Prelude.{IfSome}
use Rattle.account_model.specs.Format.{is_named}
use Rattle.line_edits.specs.SeenEdits.{seen_edit}
use Rattle.table.specs.FirstMet.{StandsNoEarlier}
use Rattle.table.specs.Met.{MeetsAt, earlier, first_in, has_met}
use Rattle.table.specs.TableCells.{Reaches}
use Rattle.table.proofs.SettledEdits.{asked-after}
use Rattle.table.proofs.keyed_cells.KeyedCells.met_after.Goals as goal

-- the index leaves what stands there
pub met_by-requires-clause-named : goal.met_by-requires-clause-named
met_by-requires-clause-named g c =
    let format = g.R.TableRecord.format in
    let told = c.in_ok-places.ensures {u = tt} in
    subst (λ cells. IfSome c.touched_name-name.result (λ name.
    Reaches format (is_named format name.now) cells c.as_slice-reached.result.now))
    (sym c.index_for.ensures)
    (subst (λ places. IfSome c.touched_name-name.result (λ name.
    Reaches format (is_named format name.now) c.args.self.now places))
    (sym c.as_slice-reached.ensures.value) told.named)

pub met_by-requires-clause-met : goal.met_by-requires-clause-met
met_by-requires-clause-met g c =
    let format = g.R.TableRecord.format in
    let edit = seen_edit g.R.EditedRecord.becomes c.args.edit.now in
    let told = c.in_ok-places.ensures {u = tt} in
    subst (λ cells. MeetsAt format edit cells c.as_slice-reached.result.now)
    (sym c.index_for.ensures)
    (subst (MeetsAt format edit c.args.self.now) (sym c.as_slice-reached.ensures.value) told.met)

-- the lower one of the two places, in front of which the edit meets none
pub returns : goal.returns
returns g c =
    let format = g.R.TableRecord.format in
    let becomes = g.R.EditedRecord.becomes in
    let keys = g.R.KeyedRecord.keys in
    let edits = seen_edit becomes c.args.edit.now ∷ [] in
    let same = c.index_for.ensures in
    let told = c.in_ok-places.ensures {u = tt} in
    let place = c.earlier-place.ensures
    ∙ ap (earlier c.args.met.place) (c.in_ok-found.ensures {u = tt}
    ∙ ap (λ cells. first_in (has_met format edits cells) cells) same) in
    record {
      place = place;
      asked = record {
        by_last = asked-after format keys c.args.self.now becomes
            c.args.edit.now c.args.met c.earlier-place.result c.with.result c.requires.asked place
            (subst (λ last. IfSome last.last (λ last. seen_edit becomes last.now
            ≡ seen_edit becomes c.args.edit.now)) (sym c.with.ensures) refl)
            (ap (λ last. last.older) c.with.ensures);
        by_key = subst (λ cells. IfSome c.in_ok-key_behind.field-0
            (StandsNoEarlier format keys cells c.earlier-place.result)) same
            (c.in_ok-key_behind.ensures {u = tt});
      };
      places = told.edited;
      same = same;
    }
