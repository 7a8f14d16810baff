use Rattle.side_by_side.specs.Scenes.{telling}
use Rattle.whole_commands.proofs.WaitingLemmas.{waiting-part}
use Rattle.command_tests.proofs.staged.staged.Goals as goal

pub new-requires : goal.new-requires
new-requires c = waiting-part (telling c.args.folder) c.in_ok-sessions.sessions.items
    c.in_ok-sessions.ensures
