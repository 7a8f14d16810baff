use Rattle.std.proofs.Common.{◌∙◌}
use Rattle.check_reports.proofs.DecisionLemmas.{pair-listed}
use Rattle.check_reports.proofs.conversion.decided.Goals as goal

pub returns : goal.returns
returns c = λ tool script files pair single main hashes others.
    c.changed.ensures tool script files single
    (pair-listed script files c.args.pair.now.main_tab c.args.pair.now.hashes_tab _ _ c.args.main
    c.args.hashes _ _ _ (c.as_ref.ensures.value ∙ pair.main)
    (c.as_ref-2.ensures.value ∙ pair.hashes)
    main hashes others c.none-tables.ensures
    (c.in_ok-push_sorted.ensures {u = tt}) (c.in_ok-push_sorted-2.ensures {u = tt}))
