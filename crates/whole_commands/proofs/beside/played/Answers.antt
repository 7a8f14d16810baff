use Rattle.side_by_side.specs.Scenes.{telling}
use Rattle.whole_commands.proofs.WaitingLemmas.{waiting-part}
use Rattle.whole_commands.proofs.beside.played.Goals as goal

pub play-requires : goal.play-requires
play-requires c = waiting-part (telling c.args.folder.now) c.in_ok-sessions.sessions.items
    c.in_ok-sessions.ensures
