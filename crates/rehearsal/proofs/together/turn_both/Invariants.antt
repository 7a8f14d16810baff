use Rattle.std.proofs.Common.{◌+◌}
use Rattle.suite_session.specs.Session.{phase_left}
use Rattle.rehearsal.specs.Together.{BelongTogether}
use Rattle.rehearsal.proofs.together.turn_both.Given as goal

-- both belong to the folder
abbrev pub invariant-turns : goal.invariant-turns
invariant-turns l = BelongTogether l.folder l.one l.other

-- the turns that are left
abbrev pub decreases-turns : goal.decreases-turns
decreases-turns l = phase_left l.one + phase_left l.other
