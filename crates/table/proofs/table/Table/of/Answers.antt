use Rattle.std.proofs.Common.{◌∙◌, ap, sym, subst}
use Rattle.std.specs.Prelude.{Some}
use Rattle.acct_text.specs.Lines.{file_bytes, lines_of}
use Rattle.acct_text.proofs.LinesLaws.{lines_of-are}
use Rattle.acct_tables.specs.Cells.{lines_now}
use Rattle.acct_tables.specs.SeenLines.{AreOfFile}
use Rattle.acct_tables.proofs.EditedFiles.{text-of_file}
use Rattle.acct_tables.proofs.PlacedCells.{lines-stand}
use Rattle.table.proofs.table.Table.of.Goals as goal

-- the lines are those of the file
pub invariant_of-result : goal.invariant_of-result
invariant_of-result g c =
    let text = c.args.text in
    subst AreOfFile (sym (ap lines_now c.of.ensures ∙ lines-stand 0 (lines_of text)))
    (text-of_file text)

-- and make it again
pub returns : goal.returns
returns g c =
    let text = c.args.text in
    ap (λ lines. Some (file_bytes lines)) (ap lines_now c.of.ensures
    ∙ lines-stand 0 (lines_of text))
    ∙ ap Some (lines_of-are text).joined
