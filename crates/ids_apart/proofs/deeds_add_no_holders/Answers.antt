use Rattle.ids_apart.proofs.Deeds.{deeds-add-none}
use Rattle.ids_apart.proofs.deeds_add_no_holders.Goals as goal

pub returns : goal.returns
returns c = deeds-add-none
