use Rattle.account_model.specs.Records.{passwd_format, shadow_format, group_format, gshadow_format}
use Rattle.account_model.proofs.SameLaws.{passwd-tells, shadow-tells, group-tells, gshadow-tells}
use Rattle.account_model.proofs.TouchedLaws.{first-is-met}
use Rattle.account_model.proofs.line_laws.touched_lines_are_met.Goals as goal

pub returns : goal.returns
returns c = record {
  passwd = first-is-met passwd_format passwd-tells;
  shadow = first-is-met shadow_format shadow-tells;
  group = first-is-met group_format group-tells;
  gshadow = first-is-met gshadow_format gshadow-tells;
}
