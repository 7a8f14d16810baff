use Rattle.std.proofs.lemmas.Result.{on_ok_weaker}
use Rattle.check_reports.proofs.GrownLemmas.{line-pushed}
use Rattle.check_reports.proofs.making.append_made.Goals as goal

pub returns : goal.returns
returns g c = on_ok_weaker c.push.result
    (line-pushed c.args.text.now _ _ _ _ (c.in_ok-push_missing_end.ensures {u = tt})
    (c.in_ok-push_made.ensures {u = tt}))
    c.push.ensures.ok
