use Rattle.std.proofs.Common.{[], ◌∷◌, ap, ◌∙◌}
use Rattle.acct_tables.specs.Marks.{marks_in}
use Rattle.line_edits.proofs.MarkLemmas.{primary-marks}
use Rattle.line_edits.proofs.passwd_changes.PasswdRecordEditedRecord.other_marks.Goals as goal

pub returns-in-OfGroup : goal.returns-in-OfGroup
returns-in-OfGroup c =
    primary-marks c.in-OfGroup.group c.in-OfGroup.field-1 c.args.change.now (marks_in c.one.result)
    c.in-OfGroup.is (c.one.ensures ∙ ap (λ mark. mark ∷ []) c.digits.ensures)
