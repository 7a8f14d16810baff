use Rattle.std.proofs.Common.{◌∙◌, ap}
use Rattle.std.specs.Prelude.{option_map}
use Rattle.account_model.specs.Faults.{shadow_fault}
use Rattle.account_model.specs.Records.{shadow_format}
use Rattle.account_model.proofs.FormatLaws.{shadow-is_format}
use Rattle.acct_lines.specs.Shown.{shadow_shown}
use Rattle.check_reports.proofs.ChangeLemmas.{shown-read}
use Rattle.check_reports.proofs.secrets.ShadowLineAccountLineShadowRecord.account_in.Goals as goal

pub returns : goal.returns
returns c =
    let line = c.args.line.now in
    ap (option_map shadow_shown) c.ok.ensures.value
    ∙ shown-read shadow_shown (shadow_format.read line) (shadow_fault line) c.read.result
    (shadow-is_format.faulted line) c.read.ensures
