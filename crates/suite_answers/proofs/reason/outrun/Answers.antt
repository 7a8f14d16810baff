use Rattle.std.proofs.Common.{◌++◌, append_assoc}
use Rattle.std.specs.Prelude.{codes, decimal}
use Rattle.suite_answers.proofs.reason.outrun.Goals as goal

pub returns : goal.returns
returns c =
    let number = decimal c.args.number in
    let greater = decimal c.args.greater in
    rw (
      append_assoc (codes "lock " ++ number) (codes " was outrun by ") greater,
      append_assoc (codes "lock ") number (codes " was outrun by " ++ greater),
    )
    c.made_of.ensures
