use Rattle.intent_file.proofs.FirstFaultIsOne.{first_fault_is_one_holds}
use Rattle.intent_file.proofs.first_fault_is_one.Goals as goal

pub returns : goal.returns
returns c = first_fault_is_one_holds
