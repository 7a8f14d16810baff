use Rattle.std.specs.Vec.{vec_items}
use Rattle.std.proofs.lemmas.List.{map-set}
use Rattle.acct_tables.proofs.patch.put_at.Goals as goal

pub returns-then-at-len : goal.returns-then-at-len
returns-then-at-len c = map-set vec_items c.args.all.now.items c.args.at c.args.texts
