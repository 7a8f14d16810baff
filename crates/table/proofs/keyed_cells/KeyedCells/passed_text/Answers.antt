use Rattle.std.proofs.Common.{◌∙◌, ap, sym}
use Rattle.std.proofs.lemmas.Option.{IfSome_then}
use Rattle.acct_text.specs.Lines.{lines_of}
use Rattle.acct_tables.specs.Cells.{lines_now}
use Rattle.acct_tables.proofs.PlacedCells.{lines-stand}
use Rattle.table.proofs.keyed_cells.KeyedCells.passed_text.Goals as goal

-- the lines of the file's bytes stand in their places
pub returns : goal.returns
returns g c =
    IfSome_then c.kept_text.result c.kept_text.ensures.cells (λ text is.
    sym (lines-stand 0 (lines_of text.now)) ∙ sym (ap lines_now is) ∙ ap lines_now c.self.view_is)
