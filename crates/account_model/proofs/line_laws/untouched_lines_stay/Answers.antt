use Rattle.account_model.specs.Records.{passwd_format, shadow_format, group_format, gshadow_format, subid_format}
use Rattle.account_model.proofs.SameLaws.{passwd-tells, shadow-tells, group-tells, gshadow-tells, subid-tells}
use Rattle.account_model.proofs.UntouchedLaws.{untouched-stay}
use Rattle.account_model.proofs.line_laws.untouched_lines_stay.Goals as goal

pub returns : goal.returns
returns c = record {
  passwd = untouched-stay passwd_format passwd-tells;
  shadow = untouched-stay shadow_format shadow-tells;
  group = untouched-stay group_format group-tells;
  gshadow = untouched-stay gshadow_format gshadow-tells;
  subid = untouched-stay subid_format subid-tells;
}
