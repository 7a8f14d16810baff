use Rattle.std.proofs.Common.{◌≡◌, max, drop}
use Rattle.acct_outside.specs.Folder.{greatest}
use Rattle.lock_steps.proofs.listing.greatest_of.Given as goal

abbrev pub invariant-numbers : goal.invariant-numbers
invariant-numbers l = max l.most (greatest (drop l.number-index l.numbers)) ≡ greatest l.numbers
