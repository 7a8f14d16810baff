use Rattle.std.proofs.Common.{refl}
use Rattle.account_model.specs.Records.{shadow_format}
use Rattle.line_edits.specs.ShadowChanges.{shadow_after, shadow_becomes}
use Rattle.line_edits.specs.declared.shadow_changes.ShadowChange.TheVariants.{Named, Remove}
use Rattle.line_edits.proofs.NamingLemmas.{touches-name}
use Rattle.line_edits.proofs.shadow_changes.ShadowRecordEditedRecord.only_name.Goals as goal

pub returns : goal.returns
returns c =
    touches-name shadow_format shadow_becomes Named Remove shadow_after (λ name act r. refl)
    (λ name r. refl) c.args.change.now c.in-Named.name c.as_slice.result.now c.in-Named.is
    c.as_slice.ensures
