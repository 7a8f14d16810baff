use Rattle.std.proofs.Common.{◌∙◌, ap, sym, subst}
use Rattle.acct_tables.specs.Cells.{lines_now}
use Rattle.account_model.specs.Edits.{with_line}
use Rattle.acct_tables.specs.KeyPlaces.{told_places}
use Rattle.table.specs.TableCells.{AreKept}
use Rattle.table.proofs.EditedCells.{new-kept}
use Rattle.table.proofs.KeptCells.{added-line}
use Rattle.table.proofs.keyed_cells.KeyedCells.add.Goals as goal

-- the keys of the record are told of at its place
pub invariant_of-self-2 : goal.invariant_of-self-2
invariant_of-self-2 g c =
    let format = g.R.TableRecord.format in
    let keys = g.R.KeyedRecord.keys in
    subst (AreKept format keys (told_places c.note.new.index)) (sym c.in_ok-place.ensures.added)
    (new-kept format keys (told_places c.self.inside.keys) (told_places c.note.new.index)
    c.in_ok-place.place c.args.item.now c.in_ok-print.field-0 c.self.inside.file c.requires
    c.in_ok-print.ensures c.note.ensures c.in_ok-place.ensures.behind c.self.invariant)

-- its text is a line more
pub returns : goal.returns
returns g c =
    ap lines_now c.in_ok-place.ensures.added
    ∙ added-line c.in_ok-place.place c.in_ok-print.field-0 c.self.inside.file
    ∙ ap (λ text. with_line text (lines_now c.self.inside.file)) c.in_ok-print.ensures
    ∙ ap (λ cells. with_line (g.R.TableRecord.format.print c.args.item.now) (lines_now cells))
    c.self.view_is
