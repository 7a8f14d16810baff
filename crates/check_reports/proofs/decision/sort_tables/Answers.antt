use Rattle.check_reports.proofs.DecisionLemmas.{tables-sorted}
use Rattle.check_reports.proofs.decision.sort_tables.Goals as goal

pub returns : goal.returns
returns g c = λ tool script sorts.
    c.changed.ensures tool script c.args.files.now sorts.touches_none
    (tables-sorted _ _ _ _ _ script c.args.files.now sorts _ _ _ _ _ _ _ c.table-main_file.ensures
    c.table-hashes_file.ensures c.in_ok-sorted.ensures c.in_ok-alike.ensures c.none-tables.ensures
    (c.in_ok-push_sorted.ensures {u = tt}) (c.in_ok-push_sorted-2.ensures {u = tt}))
