use Rattle.std.proofs.Common.{◌≡◌}
use Rattle.suite_session.specs.declared.session.Phase.TheVariants.{Waiting}
use Rattle.suite_session.specs.Runner.{Question}
use Rattle.suite_session.specs.Session.{phase_left}
use Rattle.suite_course.specs.Course.{Comes}
use Rattle.suite_course.proofs.course.finish.Given as goal

-- from the entry the session has come so far
abbrev pub invariant-loop-session : goal.invariant-loop-session
invariant-loop-session g l = ((asked : Question) → l.initial.session ≡ Waiting asked → Comes asked
    (g.F.Folder.moment l.initial.folder)
    (g.F.Folder.moment l.folder) l.session)

-- its turns bring it nearer to its answer
abbrev pub decreases-loop-session : goal.decreases-loop-session
decreases-loop-session g l = phase_left l.session
