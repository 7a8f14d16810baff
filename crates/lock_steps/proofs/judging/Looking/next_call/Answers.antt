use Rattle.lock_steps.proofs.NextLemmas.{next-listing}
use Rattle.lock_steps.proofs.judging.Looking.next_call.Goals as goal

pub returns : goal.returns
returns c = next-listing _
