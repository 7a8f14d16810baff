use Rattle.std.proofs.Common.{All}
use Rattle.suite_session.specs.Session.{IsWaiting}
use Rattle.whole_commands.proofs.beside.sessions_of.Given as goal

-- each session so far hasn't begun
abbrev pub invariant-loop-command : goal.invariant-loop-command
invariant-loop-command l = All IsWaiting l.sessions.items
