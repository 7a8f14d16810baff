use Rattle.std.proofs.Common.{◌∙◌}
use Rattle.account_model.proofs.FormatLaws.{shadow-is_format}
use Rattle.account_model.specs.Faults.{shadow_fault}
use Rattle.account_model.specs.Records.{shadow_format}
use Rattle.acct_lines.specs.Shown.{shadow_shown}
use Rattle.acct_lines.proofs.Read.{fault-told}
use Rattle.acct_lines.proofs.shadow.ShadowRecordTableRecord.fault.Goals as goal

pub returns : goal.returns
returns c =
    c.err.ensures.value
    ∙ fault-told shadow_format shadow_fault c.args.line.now shadow_shown c.read.result
    shadow-is_format c.read.ensures
