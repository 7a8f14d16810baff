use Rattle.account_model.proofs.WrittenLaws.{passwd-is-written, shadow-is-written, group-is-written, gshadow-is-written, subid-is-written}
use Rattle.account_model.proofs.line_laws.records_read_back.Goals as goal

pub returns : goal.returns
returns c = record {
  passwd = passwd-is-written;
  shadow = shadow-is-written;
  group = group-is-written;
  gshadow = gshadow-is-written;
  subid = subid-is-written;
}
