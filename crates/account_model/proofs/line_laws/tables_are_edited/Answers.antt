use Rattle.std.proofs.Common.{refl}
use Rattle.account_model.specs.Records.{passwd_format, shadow_format, group_format, gshadow_format, subid_format}
use Rattle.account_model.proofs.SameLaws.{passwd-tells, shadow-tells, group-tells, gshadow-tells, subid-tells}
use Rattle.account_model.proofs.EditLines.{table-edited}
use Rattle.account_model.proofs.line_laws.tables_are_edited.Goals as goal

pub returns : goal.returns
returns c = record {
  passwd = table-edited passwd_format passwd-tells refl;
  shadow = table-edited shadow_format shadow-tells refl;
  group = table-edited group_format group-tells refl;
  gshadow = table-edited gshadow_format gshadow-tells refl;
  subid = table-edited subid_format subid-tells refl;
}
