use Rattle.std.proofs.Common.{◌≡◌}
use Rattle.rehearsal.specs.Course.{reached}
use Rattle.rehearsal.proofs.course.course_of.Given as goal

-- what the commands so far leave
abbrev pub invariant-commands : goal.invariant-commands
invariant-commands l = l.state ≡ reached l.asked.seed l.place
