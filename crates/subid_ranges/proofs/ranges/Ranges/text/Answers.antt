use Rattle.std.proofs.Common.{◌∙◌, ap, sym}
use Rattle.std.proofs.lemmas.Result.{IfOk-weaker}
use Rattle.acct_text.specs.Lines.{file_bytes}
use Rattle.acct_text.proofs.LinesLaws.{lines_of-are}
use Rattle.subid_ranges.proofs.ranges.Ranges.text.Goals as goal

pub returns : goal.returns
returns c =
    IfOk-weaker c.of.result _ _ (λ bytes is.
    is ∙ c.as_slice.ensures ∙ sym (lines_of-are c.self.inside.text).joined
    ∙ ap file_bytes c.self.view_is)
    c.of.ensures
