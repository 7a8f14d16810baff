use Rattle.std.proofs.Common.{◌∙◌, [], ◌∷◌, ap, subst, sym}
use Rattle.std.specs.Prelude.{IfSome}
use Rattle.account_model.specs.Records.{group_format}
use Rattle.acct_tables.specs.Marks.{IsWithoutAll, marks_in}
use Rattle.line_edits.specs.GroupChanges.{group_becomes}
use Rattle.line_edits.specs.Naming.{AreMarksOf}
use Rattle.line_edits.specs.declared.group_changes.GroupChange.TheVariants.{All}
use Rattle.line_edits.proofs.MarkLemmas.{kept-group, left-member}
use Rattle.line_edits.proofs.group_changes.GroupRecordEditedRecord.other_marks.Goals as goal

pub returns-in-RemoveMember : goal.returns-in-RemoveMember
returns-in-RemoveMember c = λ line without group read.
    let told = c.in-RemoveMember in
    let alone = subst (λ marks. IsWithoutAll marks line)
    (c.one.ensures ∙ ap (λ mark. mark ∷ []) c.as_slice.ensures) without in
    ap (λ change. group_becomes change group) (c.in-All.is ∙ ap All told.is)
    ∙ left-member told.user line alone.0 group read

pub returns-in-SetMembership : goal.returns-in-SetMembership
returns-in-SetMembership c =
    let told = c.in-SetMembership in
    subst (λ change. IfSome c.marks.result (λ marks.
    AreMarksOf group_format (group_becomes change) (marks_in marks)))
    (sym (c.in-All.is ∙ ap All told.is))
    (kept-group c.marks.result told.membership c.marks.ensures)
