use Rattle.std.proofs.Common.{◌≡◌, ◌∙◌, ap}
use Rattle.acct_text.specs.Lines.{lines_of}
use Rattle.acct_tables.specs.Cells.{cells_from, lines_now}
use Rattle.acct_tables.proofs.PlacedCells.{lines-stand}
use Rattle.table.proofs.keyed_cells.KeyedCells.renew.Goals as goal
use Rattle.table.proofs.keyed_cells.KeyedCells.renew.Goals.{then-tells+in_ok-index, else-tells}

-- the text has the same lines
pub returns : goal.returns
returns g c of_file =
    let text = c.own.result in
    let made : c.if-tells.made ≡ cells_from 0 (lines_of text) = elim c.if-tells.branch [
      | then-tells+in_ok-index w ↦ w.made-is ∙ w.index.ensures ∙ c.of-made.ensures
      | else-tells w ↦ w.made-is ∙ c.of-made.ensures
    ] in
    ap lines_now (c.drop.view_is ∙ made)
    ∙ lines-stand 0 (lines_of text)
    ∙ ap lines_of (c.own.ensures ∙ c.in_ok-text.ensures ∙ c.in_ok-seen.ensures)
    ∙ of_file
