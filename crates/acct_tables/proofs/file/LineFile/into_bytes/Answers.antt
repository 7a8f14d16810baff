use Rattle.std.proofs.Common.{◌∙◌, ap, sym}
use Rattle.std.proofs.lemmas.Result.{IfOk-weaker}
use Rattle.acct_text.specs.Lines.{file_bytes}
use Rattle.acct_tables.specs.Cells.{lines_now}
use Rattle.acct_tables.proofs.ShownCells.{kept-bytes}
use Rattle.acct_tables.proofs.file.LineFile.into_bytes.Goals as goal

pub returns : goal.returns
returns c =
    let text = c.self.inside.text in
    IfOk-weaker c.into_bytes.result _ _ (λ bytes is.
    is ∙ sym (kept-bytes text)
    ∙ ap (λ cells. file_bytes (lines_now cells))
    (sym (c.are_kept.ensures c.if-not-are_kept.false text) ∙ c.self.view_is))
    c.into_bytes.ensures
