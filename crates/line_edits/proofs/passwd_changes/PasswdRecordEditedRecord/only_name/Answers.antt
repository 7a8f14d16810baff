use Rattle.std.proofs.Common.{refl}
use Rattle.account_model.specs.Records.{passwd_format}
use Rattle.line_edits.specs.PasswdChanges.{passwd_after, passwd_becomes}
use Rattle.line_edits.specs.declared.passwd_changes.PasswdChange.TheVariants.{Named, Remove}
use Rattle.line_edits.proofs.NamingLemmas.{touches-name}
use Rattle.line_edits.proofs.passwd_changes.PasswdRecordEditedRecord.only_name.Goals as goal

pub returns-in-Named : goal.returns-in-Named
returns-in-Named c =
    touches-name passwd_format passwd_becomes Named Remove passwd_after (λ name act r. refl)
    (λ name r. refl) c.args.change.now c.in-Named.name c.as_slice.result.now c.in-Named.is
    c.as_slice.ensures
