use Rattle.user_changes.proofs.RefusalLemmas.{new-name-field}
use Rattle.user_changes.proofs.conflicts.check_conflicts.Goals as goal

pub check_meetings-requires-clause-named : goal.check_meetings-requires-clause-named
check_meetings-requires-clause-named c =
    let is = c.in_ok-old_uid.ensures {u = tt} in
    new-name-field c.args.asked.now c.args.tables.now c.requires is.refused

pub check_meetings-requires-2-clause-named : goal.check_meetings-requires-2-clause-named
check_meetings-requires-2-clause-named c =
    let is = c.in_ok-old_uid.ensures {u = tt} in
    new-name-field c.args.asked.now c.args.tables.now c.requires is.refused
