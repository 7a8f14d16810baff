use Rattle.std.proofs.Common.{◌∙◌, ◌++◌, ap, sym}
use Rattle.std.proofs.lemmas.Result.{on_ok_weaker}
use Rattle.acct_text.specs.Lines.{file_bytes}
use Rattle.account_model.specs.Edits.{becomes}
use Rattle.acct_tables.specs.SeenLines.{seen_line}
use Rattle.line_edits.proofs.ChangedLines.{left-line, other-line, record-line, stays-bytes}
use Rattle.line_edits.proofs.line_changes.push_changed.Goals as goal

pub returns-then-leaves : goal.returns-then-leaves
returns-then-leaves g c =
    let format = g.R.TableRecord.format in
    let change = g.R.EditedRecord.becomes c.args.change.now in
    let line = seen_line c.args.line.now in
    on_ok_weaker c.push_to.result
    (λ pushed. pushed ∙ ap (λ bytes. c.args.made.now ++ bytes)
    (stays-bytes format change line (becomes format change line)
    (left-line format change line g.met.R.TableRecord.is_line_format.same
    (c.leaves.ensures c.if-leaves.true))))
    c.push_to.ensures

pub returns-in-None : goal.returns-in-None
returns-in-None g c =
    let format = g.R.TableRecord.format in
    let change = g.R.EditedRecord.becomes c.args.change.now in
    let line = seen_line c.args.line.now in
    on_ok_weaker c.push_to-in-None.result
    (λ pushed. pushed ∙ ap (λ bytes. c.args.made.now ++ bytes)
    (stays-bytes format change line (becomes format change line)
    (other-line format change line (sym c.in_ok-item.ensures.found ∙ c.in-None.is))))
    c.push_to-in-None.ensures

pub returns-in-Some : goal.returns-in-Some
returns-in-Some g c =
    let format = g.R.TableRecord.format in
    let change = g.R.EditedRecord.becomes c.args.change.now in
    let line = seen_line c.args.line.now in
    on_ok_weaker c.push_becoming.result
    (λ pushed. pushed ∙ ap (λ lines. c.args.made.now ++ file_bytes lines)
    (sym (record-line format change line c.in-Some.item
    (sym c.in_ok-item.ensures.found ∙ c.in-Some.is))))
    c.push_becoming.ensures
