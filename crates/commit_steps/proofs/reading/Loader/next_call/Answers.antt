use Rattle.commit_steps.proofs.NextLemmas.{next-file}
use Rattle.commit_steps.proofs.reading.Loader.next_call.Goals as goal

pub returns : goal.returns
returns c = rw c.next_name.ensures (next-file c.args.self.now)
