use Rattle.std.proofs.Common.{subst}
use Rattle.suite_session.specs.Runner.{IsRead, Runner}
use Rattle.suite_session.proofs.LoadingTurns.{of-change}
use Rattle.suite_session.proofs.loading.backing_up.Goals as goal

pub prepare-requires : goal.prepare-requires
prepare-requires c = c.requires.2

pub returns-in-Ok : goal.returns-in-Ok
returns-in-Ok c =
    of-change c.args.runner.now c.args.loaded c.args.new c.args.answer
    (subst (λ (one : Runner). IsRead one.asked) c.runner.view_is c.asks_once.ensures)
    c.requires c.in-Ok.backing c.in-Ok.ensures.value c.in-Ok.ensures.reads
