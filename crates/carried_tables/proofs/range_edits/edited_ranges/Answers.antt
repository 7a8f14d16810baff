use Rattle.std.proofs.Common.{◌∙◌, refl, sym, ap, subst}
use Rattle.std.specs.List.{AllByRecursion}
use Rattle.std.proofs.lemmas.List.{take_rest}
use Rattle.std.proofs.lemmas.Result.{IfOk-weaker}
use Rattle.acct_text.specs.Lines.{file_bytes, lines_of}
use Rattle.account_model.specs.Edits.{edited_by}
use Rattle.account_model.specs.RecordEdits.{IsWrittenEdit}
use Rattle.account_model.specs.Records.{subid_format}
use Rattle.line_edits.specs.SeenEdits.{seen_edits}
use Rattle.line_edits.specs.SubidChanges.{subid_becomes}
use Rattle.line_edits.proofs.EditLists.{edited-apart, edits-from, edits-up_to}
use Rattle.carried_tables.proofs.range_edits.edited_ranges.Goals as goal

pub edited_text-requires : goal.edited_text-requires
edited_text-requires c =
    edits-up_to subid_becomes (IsWrittenEdit subid_format) c.args.edits.now c.first_cut-first.result
    c.requires

pub edited_from_cut-requires-in_default : goal.edited_from_cut-requires-in_default
edited_from_cut-requires-in_default c =
    let edits = c.args.edits.now in
    let first = c.first_cut-first.result in
    subst (λ left. AllByRecursion (IsWrittenEdit subid_format) (seen_edits subid_becomes left))
    (sym (take_rest edits first))
    (edits-from subid_becomes (IsWrittenEdit subid_format) edits first c.requires)

pub returns-in_ok-before-in_default : goal.returns-in_ok-before-in_default
returns-in_ok-before-in_default c =
    let edits = c.args.edits.now in
    let first = c.first_cut-first.result in
    let before = c.as_slice.result.now in
    IfOk-weaker c.edited_from_cut-in_default.result _ _ (λ bytes is.
    is
    ∙ ap (λ left. file_bytes
    (edited_by subid_format (seen_edits subid_becomes left) (lines_of before)))
    (take_rest edits first)
    ∙ ap file_bytes (edited-apart subid_becomes subid_format edits first c.args.text.now before refl
    c.requires
    (c.as_slice.ensures ∙ c.in_ok-before-in_default.ensures {u = tt})))
    c.edited_from_cut-in_default.ensures
