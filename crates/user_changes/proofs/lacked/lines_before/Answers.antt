use Rattle.std.proofs.Common.{◌≡◌, ◌∙◌, ◌++◌, sym, ap, subst}
use Rattle.std.specs.List.{AllByRecursion}
use Rattle.std.proofs.lemmas.Result.{IfOk-weaker}
use Rattle.acct_text.specs.Lines.{file_bytes, lines_of}
use Rattle.account_model.specs.Edits.{edited_by}
use Rattle.account_model.specs.RecordEdits.{IsWrittenEdit}
use Rattle.account_model.specs.Records.{subid_format}
use Rattle.account_model.specs.UsermodRanges.{edits_before_adding}
use Rattle.line_edits.specs.SeenEdits.{seen_edits}
use Rattle.line_edits.specs.SubidChanges.{subid_becomes}
use Rattle.user_changes.specs.Ranges.{id_change, owner_in}
use Rattle.user_changes.proofs.MeetingLemmas.{lines-before, removals-written}
use Rattle.user_changes.proofs.lacked.lines_before.Goals as goal

pub edited_ranges-requires : goal.edited_ranges-requires
edited_ranges-requires c =
    let owner = owner_in c.args.ranges.now in
    let change = id_change c.args.ranges.now in
    let before = edits_before_adding owner change in
    let seen : seen_edits subid_becomes c.as_slice.result.now ≡ before =
    ap (seen_edits subid_becomes) c.as_slice.ensures.value
    ∙ c.in_ok-push_removals.ensures
    ∙ ap (λ items. seen_edits subid_becomes items ++ before) c.new-edits.ensures.items in
    subst (AllByRecursion (IsWrittenEdit subid_format)) (sym seen)
    (removals-written owner change c.requires)

pub returns : goal.returns
returns c =
    let owner = owner_in c.args.ranges.now in
    let change = id_change c.args.ranges.now in
    let before = edits_before_adding owner change in
    let text = c.args.text.now in
    let seen : seen_edits subid_becomes c.as_slice.result.now ≡ before =
    ap (seen_edits subid_becomes) c.as_slice.ensures.value
    ∙ c.in_ok-push_removals.ensures
    ∙ ap (λ items. seen_edits subid_becomes items ++ before) c.new-edits.ensures.items in
    let edited : lines_of c.as_slice-2.result.now ≡ edited_by subid_format before (lines_of text) =
    ap lines_of (c.as_slice-2.ensures ∙ c.in_ok-text.ensures {u = tt})
    ∙ ap (λ edits. lines_of (file_bytes (edited_by subid_format edits (lines_of text)))) seen
    ∙ lines-before before text (removals-written owner change c.requires) in
    IfOk-weaker c.load.result _ _ (λ found is. is ∙ edited) c.load.ensures.lines
