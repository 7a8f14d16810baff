use Rattle.std.proofs.Common.{refl}
use Rattle.account_model.specs.Records.{group_format}
use Rattle.line_edits.specs.GroupChanges.{group_after, group_becomes}
use Rattle.line_edits.specs.declared.group_changes.GroupChange.TheVariants.{Named, Remove}
use Rattle.line_edits.proofs.NamingLemmas.{touches-name}
use Rattle.line_edits.proofs.group_changes.GroupRecordEditedRecord.only_name.Goals as goal

pub returns-in-Named : goal.returns-in-Named
returns-in-Named c =
    touches-name group_format group_becomes Named Remove group_after (λ name act r. refl)
    (λ name r. refl) c.args.change.now c.in-Named.name c.as_slice.result.now c.in-Named.is
    c.as_slice.ensures
