use Rattle.std.proofs.Common.{◌∙◌, refl, sym, ap, subst}
use Rattle.std.specs.List.{AllByRecursion}
use Rattle.std.proofs.lemmas.List.{take_rest}
use Rattle.std.proofs.lemmas.Result.{IfOk-weaker}
use Rattle.acct_text.specs.Lines.{file_bytes, lines_of}
use Rattle.account_model.specs.Edits.{edited_by}
use Rattle.account_model.specs.RecordEdits.{IsWrittenEdit}
use Rattle.account_model.specs.Records.{subid_format}
use Rattle.line_edits.specs.SeenEdits.{seen_edits}
use Rattle.line_edits.specs.SubidChanges.{subid_becomes}
use Rattle.line_edits.proofs.EditLists.{edited-apart, edits-from, edits-up_to}
use Rattle.carried_tables.proofs.range_edits.edited_with_cut.Goals as goal

pub text_without-requires-clause-written : goal.text_without-requires-clause-written
text_without-requires-clause-written c =
    edits-up_to subid_becomes (IsWrittenEdit subid_format) c.args.edits.now
    c.in_ok-removals.removals.count c.requires

pub edited_text-requires : goal.edited_text-requires
edited_text-requires c =
    let edits = c.args.edits.now in
    let count = c.in_ok-removals.removals.count in
    subst (λ left. AllByRecursion (IsWrittenEdit subid_format) (seen_edits subid_becomes left))
    (sym (take_rest edits count))
    (edits-from subid_becomes (IsWrittenEdit subid_format) edits count c.requires)

pub returns : goal.returns
returns c =
    let edits = c.args.edits.now in
    let count = c.in_ok-removals.removals.count in
    let left = c.as_slice.result.now in
    IfOk-weaker c.edited_text.result _ _ (λ bytes is.
    is
    ∙ ap (λ behind. file_bytes
    (edited_by subid_format (seen_edits subid_becomes behind) (lines_of left)))
    (take_rest edits count)
    ∙ ap file_bytes (edited-apart subid_becomes subid_format edits count c.args.text.now left refl
    c.requires (c.as_slice.ensures ∙ c.in_ok-left.ensures {u = tt})))
    c.edited_text.ensures
