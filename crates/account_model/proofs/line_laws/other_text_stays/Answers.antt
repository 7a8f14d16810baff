use Rattle.std.proofs.Common.{refl}
use Rattle.account_model.specs.Records.{passwd_format, shadow_format, group_format, gshadow_format, subid_format}
use Rattle.account_model.proofs.OtherText.{table-others}
use Rattle.account_model.proofs.line_laws.other_text_stays.Goals as goal

pub returns : goal.returns
returns c = record {
  passwd = table-others passwd_format refl;
  shadow = table-others shadow_format refl;
  group = table-others group_format refl;
  gshadow = table-others gshadow_format refl;
  subid = table-others subid_format refl;
}
