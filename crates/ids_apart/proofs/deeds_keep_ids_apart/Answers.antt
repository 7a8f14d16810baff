use Rattle.ids_apart.proofs.Meetings.{deeds-keep}
use Rattle.ids_apart.proofs.deeds_keep_ids_apart.Goals as goal

pub returns : goal.returns
returns c = deeds-keep c.deeds_add_no_holders.ensures
