use Rattle.account_model.specs.Records.{passwd_format, shadow_format, group_format, gshadow_format}
use Rattle.account_model.specs.Pwck.{user_problems, shadow_problems}
use Rattle.account_model.specs.Grpck.{group_problems, gshadow_problems}
use Rattle.account_model.proofs.ReportLaws.{table-report}
use Rattle.account_model.proofs.laws.reports_are_whole.Goals as goal

pub returns : goal.returns
returns c = record {
  passwd = λ files. table-report passwd_format (user_problems files) files.passwd;
  shadow = λ files today. table-report shadow_format (shadow_problems files today) files.shadow;
  group = λ files. table-report group_format (group_problems files) files.group;
  gshadow = λ files. table-report gshadow_format (gshadow_problems files) files.gshadow;
}
