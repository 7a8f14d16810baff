use Rattle.std.proofs.Common.{arith}
use Rattle.id_choice.proofs.RemovedRuns.{ended-before}
use Rattle.id_choice.proofs.runs.end_before.Goals as goal

-- the last run up to the number ends before it
pub returns-else-number-run : goal.returns-else-number-run
returns-else-number-run c =
    ended-before c.args.runs.now c.args.number c.in-Some.run' c.requires c.in-Some.ensures
    (omega (arith, c.if-number-run.false))
