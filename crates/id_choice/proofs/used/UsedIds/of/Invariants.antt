use Rattle.std.proofs.Common.{take}
use Rattle.id_choice.specs.Used.{AreThoseOf}
use Rattle.id_choice.proofs.used.UsedIds.of.Given as goal

-- the IDs so far are used
abbrev pub invariant-ids : goal.invariant-ids
invariant-ids l = AreThoseOf l.used (take l.id-index l.id-items)
