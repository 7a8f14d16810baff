use Rattle.std.proofs.Common.{◌∙◌, ap, subst, sym}
use Rattle.std.specs.Prelude.{IfSome}
use Rattle.account_model.specs.Records.{gshadow_format}
use Rattle.line_edits.specs.GshadowChanges.{gshadow_becomes}
use Rattle.line_edits.specs.Naming.{TouchesOnly, names_in}
use Rattle.line_edits.specs.declared.gshadow_changes.GshadowChange.TheVariants.{All}
use Rattle.line_edits.proofs.NamingLemmas.{joined-gshadow}
use Rattle.line_edits.proofs.gshadow_changes.GshadowRecordEditedRecord.several_names.Goals as goal

pub returns-in-SetMembership : goal.returns-in-SetMembership
returns-in-SetMembership c =
    let told = c.in-SetMembership in
    subst (λ change. IfSome c.only_groups.result (λ names.
    TouchesOnly gshadow_format (gshadow_becomes change) (names_in names)))
    (sym (c.in-All.is ∙ ap All told.is))
    (joined-gshadow told.membership c.only_groups.result c.only_groups.ensures)
