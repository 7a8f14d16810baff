use Rattle.side_by_side.proofs.ListLemmas.{behind-list}
use Rattle.side_by_side.proofs.schedule.place_behind.Goals as goal

pub returns-then-place-lists : goal.returns-then-place-lists
returns-then-place-lists c = behind-list c.args.lists.now c.args.place
