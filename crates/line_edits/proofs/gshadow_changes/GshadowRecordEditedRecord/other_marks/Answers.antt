use Rattle.std.proofs.Common.{◌∙◌, [], ◌∷◌, ap, subst, sym}
use Rattle.std.specs.Prelude.{IfSome}
use Rattle.account_model.specs.Records.{gshadow_format}
use Rattle.acct_tables.specs.Marks.{IsWithoutAll, marks_in}
use Rattle.line_edits.specs.GshadowChanges.{gshadow_becomes}
use Rattle.line_edits.specs.Naming.{AreMarksOf}
use Rattle.line_edits.specs.declared.gshadow_changes.GshadowChange.TheVariants.{All}
use Rattle.line_edits.proofs.MarkLemmas.{kept-gshadow, left-user}
use Rattle.line_edits.proofs.gshadow_changes.GshadowRecordEditedRecord.other_marks.Goals as goal

pub returns-in-RemoveUser : goal.returns-in-RemoveUser
returns-in-RemoveUser c = λ line without group read.
    let told = c.in-RemoveUser in
    let alone = subst (λ marks. IsWithoutAll marks line)
    (c.one.ensures ∙ ap (λ mark. mark ∷ []) c.as_slice.ensures) without in
    ap (λ change. gshadow_becomes change group) (c.in-All.is ∙ ap All told.is)
    ∙ left-user told.user line alone.0 group read

pub returns-in-SetMembership : goal.returns-in-SetMembership
returns-in-SetMembership c =
    let told = c.in-SetMembership in
    subst (λ change. IfSome c.marks.result (λ marks.
    AreMarksOf gshadow_format (gshadow_becomes change) (marks_in marks)))
    (sym (c.in-All.is ∙ ap All told.is))
    (kept-gshadow c.marks.result told.membership c.marks.ensures)
