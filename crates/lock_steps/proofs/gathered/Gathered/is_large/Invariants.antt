use Rattle.std.proofs.Common.{◌≡◌, drop}
use Rattle.lock_steps.specs.Gathered.{is_in}
use Rattle.lock_steps.proofs.gathered.Gathered.is_large.Given as goal

abbrev pub invariant-loop-large : goal.invariant-loop-large
invariant-loop-large l = is_in l.name (drop l.large-index l.self.large) ≡ is_in l.name l.self.large
