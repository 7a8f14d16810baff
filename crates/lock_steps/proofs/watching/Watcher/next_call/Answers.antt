use Rattle.lock_steps.proofs.WatchingLemmas.{next-intent}
use Rattle.lock_steps.proofs.watching.Watcher.next_call.Goals as goal

pub returns : goal.returns
returns c = next-intent c.args.self.now
