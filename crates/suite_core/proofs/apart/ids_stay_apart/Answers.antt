use Rattle.suite_core.proofs.ApartLemmas.{ids-stay-apart, no-new-holders}
use Rattle.suite_core.proofs.apart.ids_stay_apart.Goals as goal

pub returns-clause-meetings : goal.returns-clause-meetings
returns-clause-meetings c =
    no-new-holders c.deeds_add_no_holders.ensures c.lawful_settles.ensures

pub returns-clause-apart : goal.returns-clause-apart
returns-clause-apart c = ids-stay-apart c.deeds_keep_ids_apart.ensures c.lawful_settles.ensures
