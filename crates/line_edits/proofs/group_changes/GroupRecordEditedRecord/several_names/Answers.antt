use Rattle.std.proofs.Common.{◌∙◌, ap, subst, sym}
use Rattle.std.specs.Prelude.{IfSome}
use Rattle.account_model.specs.Records.{group_format}
use Rattle.line_edits.specs.GroupChanges.{group_becomes}
use Rattle.line_edits.specs.Naming.{TouchesOnly, names_in}
use Rattle.line_edits.specs.declared.group_changes.GroupChange.TheVariants.{All}
use Rattle.line_edits.proofs.NamingLemmas.{joined-group}
use Rattle.line_edits.proofs.group_changes.GroupRecordEditedRecord.several_names.Goals as goal

pub returns-in-SetMembership : goal.returns-in-SetMembership
returns-in-SetMembership c =
    let told = c.in-SetMembership in
    subst (λ change. IfSome c.only_groups.result (λ names.
    TouchesOnly group_format (group_becomes change) (names_in names)))
    (sym (c.in-All.is ∙ ap All told.is))
    (joined-group told.membership c.only_groups.result c.only_groups.ensures)
