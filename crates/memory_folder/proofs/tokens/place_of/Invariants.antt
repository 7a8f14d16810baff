use Rattle.std.proofs.Common.{◌≡◌, true, drop}
use Rattle.memory_folder.specs.Events.{has_token}
use Rattle.memory_folder.proofs.tokens.place_of.Given as goal

abbrev pub invariant-loop-place : goal.invariant-loop-place
invariant-loop-place l = has_token l.token (drop l.place l.tokens.items) ≡ true
