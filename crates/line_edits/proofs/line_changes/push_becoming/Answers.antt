use Rattle.std.proofs.Common.{◌≡◌, ◌∙◌, [], ◌∷◌, ◌++◌, ap, sym, append_assoc, append-nil}
use Rattle.std.proofs.lemmas.Result.{on_ok_weaker}
use Rattle.acct_text.specs.Lines.{file_bytes, line_bytes}
use Rattle.account_model.specs.Edits.{line_becomes, printed_line}
use Rattle.acct_tables.specs.SeenLines.{seen_line}
use Rattle.line_edits.specs.SeenEdits.{records_in}
use Rattle.line_edits.proofs.ChangedLines.{same-line, stays-bytes}
use Rattle.line_edits.proofs.line_changes.push_becoming.Goals as goal

pub returns-in-Stays : goal.returns-in-Stays
returns-in-Stays g c =
    let format = g.R.TableRecord.format in
    let change = g.R.EditedRecord.becomes c.args.change.now in
    let line = seen_line c.args.line.now in
    let item = c.args.item in
    let same : change item ≡ item ∷ [] =
    sym c.in_ok-becoming.ensures ∙ ap (records_in item) c.in-Stays.is in
    on_ok_weaker c.push_to.result
    (λ pushed. pushed ∙ ap (λ bytes. c.args.made.now ++ bytes)
    (stays-bytes format change line (line_becomes format line item (change item))
    (same-line format change line item g.met.R.TableRecord.is_line_format.same same)))
    c.push_to.ensures

pub returns-in-Changes : goal.returns-in-Changes
returns-in-Changes g c =
    let format = g.R.TableRecord.format in
    let line = seen_line c.args.line.now in
    let item = c.args.item in
    on_ok_weaker c.push_instead.result
    (λ pushed. pushed item c.requires.item (sym (c.as_slice.ensures ∙ c.in_ok-kept.ensures))
    ∙ ap (λ records. c.args.made.now ++ file_bytes (line_becomes format line item records))
    (sym (ap (records_in item) c.in-Changes.is) ∙ c.in_ok-becoming.ensures))
    c.push_instead.ensures

pub returns-in-Goes : goal.returns-in-Goes
returns-in-Goes g c =
    let format = g.R.TableRecord.format in
    let line = seen_line c.args.line.now in
    let item = c.args.item in
    sym (append-nil c.args.made.now)
    ∙ ap (λ records. c.args.made.now ++ file_bytes (line_becomes format line item records))
    (sym (ap (records_in item) c.in-Goes.is) ∙ c.in_ok-becoming.ensures)

pub returns : goal.returns
returns g c =
    let format = g.R.TableRecord.format in
    let line = seen_line c.args.line.now in
    let item = c.args.item in
    let made = c.args.made.now in
    let first = line_bytes (printed_line format c.in-Splits.first) in
    let second = line_bytes (printed_line format c.in-Splits.second) in
    on_ok_weaker c.push_new-in-Splits.result
    (λ pushed. pushed
    ∙ ap (λ front. front ++ second) c.in_ok-push_new-in-Splits.ensures
    ∙ append_assoc made first second
    ∙ ap (λ rest. made ++ (first ++ rest)) (sym (append-nil second))
    ∙ ap (λ records. made ++ file_bytes (line_becomes format line item records))
    (sym (ap (records_in item) c.in-Splits.is) ∙ c.in_ok-becoming.ensures))
    c.push_new-in-Splits.ensures
