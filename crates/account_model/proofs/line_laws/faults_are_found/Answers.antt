use Rattle.account_model.proofs.FaultLaws.{passwd-fault, shadow-fault, group-fault, gshadow-fault, subid-fault}
use Rattle.account_model.proofs.line_laws.faults_are_found.Goals as goal

pub returns : goal.returns
returns c = record {
  passwd = passwd-fault;
  shadow = shadow-fault;
  group = group-fault;
  gshadow = gshadow-fault;
  subid = subid-fault;
}
