use Rattle.account_model.proofs.ReadsLaws.{passwd-found, passwd-is, shadow-found, shadow-is, group-found, group-is, gshadow-found, gshadow-is, subid-found, subid-is}
use Rattle.account_model.proofs.line_laws.records_are_found.Goals as goal

pub returns : goal.returns
returns c = record {
  passwd = λ text r. (passwd-found text r, passwd-is text r);
  shadow = λ text r. (shadow-found text r, shadow-is text r);
  group = λ text r. (group-found text r, group-is text r);
  gshadow = λ text r. (gshadow-found text r, gshadow-is text r);
  subid = λ text r. (subid-found text r, subid-is text r);
}
