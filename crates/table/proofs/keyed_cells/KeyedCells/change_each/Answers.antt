use Rattle.std.proofs.Common.{◌≡◌, ◌∙◌, ◌+◌, [], ◌∷◌, drop, get_or, ap, sym, arith}
use Rattle.std.proofs.Math.ListN.{drop_of_length-le}
use Rattle.std.proofs.lemmas.List.{drop_more}
use Rattle.table.specs.Changed.{changed_there}
use Rattle.table.proofs.ChangedTexts.{changed-next, changed-nowhere}
use Rattle.table.proofs.PlaceLemmas.{unused-later}
use Rattle.table.proofs.keyed_cells.KeyedCells.change_each.Goals as goal
use Rattle.table.proofs.keyed_cells.KeyedCells.change_each.Goals.{then-differ, else-differ}

-- the next place is changed, and the others are left
pub places-preserved : goal.places-preserved
places-preserved g c =
    let format = g.R.TableRecord.format in
    let change = g.R.EditedRecord.becomes c.args.change.now in
    let places = c.args.places.now in
    let place = get_or places c.places.place-index 0 in
    let later = drop (c.places.place-index + 1) places in
    let left : drop c.places.place-index places ≡ place ∷ later =
    drop_more places c.places.place-index 0 (omega arith) in
    let ensured = c.in_ok-changes.ensures {u = tt} in
    record {
      changed = ap (changed_there format change later) ensured.changed
          ∙ changed-next format change place later c.places.self
          (unused-later places c.places.place-index c.requires.ascending (omega arith))
          ∙ sym (ap (λ left. changed_there format change left c.places.self) left)
          ∙ c.places.invariant.changed;
      same = λ none. elim c.if-differ.branch [
        | then-differ w ↦ absurd cc
        | else-differ w ↦
            ensured.same (sym w.differ-is ∙ none) ∙ c.places.invariant.same w.if-differ.false
      ];
    }

-- no place is left
pub returns-clause-changed : goal.returns-clause-changed
returns-clause-changed g c =
    let format = g.R.TableRecord.format in
    let change = g.R.EditedRecord.becomes c.args.change.now in
    let none : drop c.places.place-index c.args.places.now ≡ [] =
    drop_of_length-le c.args.places.now (omega arith) in
    sym (ap (λ left. changed_there format change left c.places.self) none
    ∙ changed-nowhere format change c.places.self)
    ∙ c.places.invariant.changed
