use Rattle.std.proofs.Common.{take}
use Rattle.carried_tables.specs.KeptIds.{AreIdsOf, counts_of}
use Rattle.carried_tables.proofs.kept_ids.KeptIds.of.Given as goal

-- the IDs are those of the list so far
abbrev pub invariant-ids : goal.invariant-ids
invariant-ids l = AreIdsOf l.kept (counts_of (take l.id-index l.id-items))
