use Rattle.std.proofs.Common.{◌∙◌, ◌++◌, sym, ap, append-nil}
use Rattle.std.proofs.lemmas.Result.{on_ok_weaker}
use Rattle.acct_text.specs.Lines.{file_bytes, line_bytes, lines_of}
use Rattle.account_model.specs.Edits.{edited_by}
use Rattle.account_model.specs.Records.{subid_format}
use Rattle.acct_tables.specs.SeenLines.{seen_line}
use Rattle.line_edits.specs.SeenEdits.{seen_edits}
use Rattle.line_edits.specs.SubidChanges.{subid_becomes}
use Rattle.carried_tables.proofs.RemovalLemmas.{alone-found}
use Rattle.carried_tables.proofs.range_edits.push_edited.Goals as goal

pub returns : goal.returns
returns c =
    let line = seen_line c.args.line.now in
    let edits = seen_edits subid_becomes c.args.edits.now in
    let alone =
    c.as_slice.ensures ∙ c.in_ok-push_to.ensures ∙ ap (λ front. front ++ line_bytes line)
    c.new-alone.ensures ∙ sym (append-nil (line_bytes line)) in
    on_ok_weaker c.push.result
    (λ pushed. pushed ∙ ap (λ bytes. c.args.made.now ++ bytes)
    (c.as_slice-2.ensures ∙ c.in_ok-left.ensures
    ∙ ap (λ lines. file_bytes (edited_by subid_format edits lines))
    (ap lines_of alone ∙ alone-found line c.requires.one_line c.requires.range)))
    c.push.ensures.ok
