use Rattle.std.proofs.Common.{◌≡◌, drop}
use Rattle.memory_folder.specs.Events.{has_token}
use Rattle.memory_folder.proofs.tokens.is_among.Given as goal

abbrev pub invariant-loop-other : goal.invariant-loop-other
invariant-loop-other l =
    has_token l.token (drop l.other-index l.tokens.items) ≡ has_token l.token l.tokens.items
