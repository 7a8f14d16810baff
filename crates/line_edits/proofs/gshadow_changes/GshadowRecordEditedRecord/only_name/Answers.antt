use Rattle.std.proofs.Common.{refl}
use Rattle.account_model.specs.Records.{gshadow_format}
use Rattle.line_edits.specs.GshadowChanges.{gshadow_after, gshadow_becomes}
use Rattle.line_edits.specs.declared.gshadow_changes.GshadowChange.TheVariants.{Named, Remove}
use Rattle.line_edits.proofs.NamingLemmas.{touches-name}
use Rattle.line_edits.proofs.gshadow_changes.GshadowRecordEditedRecord.only_name.Goals as goal

pub returns-in-Named : goal.returns-in-Named
returns-in-Named c =
    touches-name gshadow_format gshadow_becomes Named Remove gshadow_after (λ name act r. refl)
    (λ name r. refl) c.args.change.now c.in-Named.name c.as_slice.result.now c.in-Named.is
    c.as_slice.ensures
