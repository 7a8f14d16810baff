use Rattle.std.proofs.Common.{ap}
use Rattle.std.specs.Prelude.{is_some}
use Rattle.std.proofs.lemmas.Map.Keys.{le_from_not_gt, ge_from_not_lt}
use Rattle.id_choice.proofs.RunLemmas.{le-not_gt}
use Rattle.id_choice.proofs.runs.run_before.Goals as goal

pub returns : goal.returns
returns c =
    let part = c.range.ensures.in_range tt
    in let steps = c.in_ok-first.ensures.steps
    in let here = part.3 _ _ steps
    in record {
      has = here.1;
      begins = le_from_not_gt _ _ here.0.1;
      last_one = λ first last run before. ge_from_not_lt _ _
          (part.4 _ _ steps first (tt, le-not_gt _ _ before) (ap is_some run));
    }
