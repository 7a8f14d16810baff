use Rattle.std.proofs.Common.{◌≡◌, ◌∙◌, [], ◌∷◌, ap, sym, subst}
use Rattle.std.specs.Prelude.{IfSome, Some, option_map, unwrap_or}
use Rattle.std.specs.List.{AllByRecursion}
use Rattle.acct_text.specs.Lines.{file_bytes, lines_of}
use Rattle.account_model.specs.Edits.Edit.{Become}
use Rattle.account_model.specs.RecordEdits.{IsWrittenEdit}
use Rattle.acct_tables.specs.Cells.{cells_from, lines_now}
use Rattle.acct_tables.specs.SeenLines.{AreOfFile}
use Rattle.table.specs.Met.{AreEditedAt}
use Rattle.table.proofs.TableLemmas.{edited-alone, file-cells}
use Rattle.table.proofs.table.Table.edit_at.Goals as goal

-- the places are those of the lines at hand
pub change_at_told-requires-clause-places : goal.change_at_told-requires-clause-places
change_at_told-requires-clause-places g c =
    let format = g.R.TableRecord.format in
    let becomes = g.R.EditedRecord.becomes in
    let before = lines_now c.in-Some-take.cells in
    let taken = sym c.take.ensures.value ∙ c.in-Some-take.is in
    let file = sym c.self.view_is ∙ ap (option_map (λ cells. file_bytes (lines_now cells))) taken in
    let of_file : AreOfFile before =
    subst (λ lines. IfSome lines (λ cells. AreOfFile (lines_now cells))) taken c.self.invariant in
    let places = c.args.places.now in
    subst (λ cells. AreEditedAt format (Become (becomes c.in-Some.change.now) ∷ []) cells places)
    (file-cells c.args.self.now before file of_file)
    (subst (λ edits. AreEditedAt format edits
    (cells_from 0 (lines_of (unwrap_or c.args.self.now []))) places)
    c.in-Some.ensures c.requires.places)

-- the change is made
pub invariant_of-self-2 : goal.invariant_of-self-2
invariant_of-self-2 g c =
    let format = g.R.TableRecord.format in
    let becomes = g.R.EditedRecord.becomes in
    let before = lines_now c.in-Some-take.cells in
    let taken = sym c.take.ensures.value ∙ c.in-Some-take.is in
    let file = sym c.self.view_is ∙ ap (option_map (λ cells. file_bytes (lines_now cells))) taken in
    let of_file : AreOfFile before =
    subst (λ lines. IfSome lines (λ cells. AreOfFile (lines_now cells))) taken c.self.invariant in
    let ensured = c.in_ok-differ.ensures {u = tt} in
    let alone = edited-alone format becomes c.args.edits.now (Become (becomes c.in-Some.change.now))
    c.args.self.now before (lines_now c.change_at_told.new.self) (lines_now c.renew.new.self)
    g.met.R.EditedRecord.no_blank c.in-Some.ensures c.requires.written file of_file ensured.edited
    (c.in_ok-renew.ensures {u = tt}) in
    alone.0

pub returns : goal.returns
returns g c =
    let format = g.R.TableRecord.format in
    let becomes = g.R.EditedRecord.becomes in
    let before = lines_now c.in-Some-take.cells in
    let taken = sym c.take.ensures.value ∙ c.in-Some-take.is in
    let file = sym c.self.view_is ∙ ap (option_map (λ cells. file_bytes (lines_now cells))) taken in
    let of_file : AreOfFile before =
    subst (λ lines. IfSome lines (λ cells. AreOfFile (lines_now cells))) taken c.self.invariant in
    let ensured = c.in_ok-differ.ensures {u = tt} in
    let alone = edited-alone format becomes c.args.edits.now (Become (becomes c.in-Some.change.now))
    c.args.self.now before (lines_now c.change_at_told.new.self) (lines_now c.renew.new.self)
    g.met.R.EditedRecord.no_blank c.in-Some.ensures c.requires.written file of_file ensured.edited
    (c.in_ok-renew.ensures {u = tt}) in
    record {
      edited = alone.1;
      same = λ none.
          ap (λ lines. Some (file_bytes lines)) (alone.2 ∙ ensured.same none) ∙ sym file;
    }
