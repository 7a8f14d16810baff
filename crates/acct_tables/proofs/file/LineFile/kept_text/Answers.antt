use Rattle.std.proofs.Common.{◌∙◌, ap, sym}
use Rattle.acct_text.specs.Lines.{file_bytes, lines_of}
use Rattle.acct_tables.specs.Cells.{cells_from, lines_now}
use Rattle.acct_tables.proofs.ShownCells.{kept-bytes}
use Rattle.acct_tables.proofs.file.LineFile.kept_text.Goals as goal

pub returns : goal.returns
returns c =
    let text = c.self.inside.text in
    let same = sym (c.are_kept.ensures c.if-not-are_kept.false text) ∙ c.self.view_is in
    record {
      bytes = c.as_slice.ensures ∙ sym (kept-bytes text)
          ∙ ap (λ cells. file_bytes (lines_now cells)) same;
      cells = sym same ∙ ap (λ text. cells_from 0 (lines_of text)) (sym c.as_slice.ensures);
    }
