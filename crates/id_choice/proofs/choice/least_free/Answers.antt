use Rattle.std.proofs.Common.{arith}
use Rattle.std.proofs.lemmas.Option.{MatchOption-at_none}
use Rattle.id_choice.specs.Runs.{HasNothingUpTo, IsLastUpTo}
use Rattle.id_choice.proofs.ChoiceLemmas.{least-behind, least-first, none-free}
use Rattle.id_choice.proofs.choice.least_free.Goals as goal

pub returns-in-Some : goal.returns-in-Some
returns-in-Some c =
    none-free c.args.low c.args.high c.args.used.now c.in-Some.run'
    c.in-Some.ensures.whole.filled c.in-Some.ensures.begins c.if-high-run.true

pub returns-in-Some-2 : goal.returns-in-Some-2
returns-in-Some-2 c =
    least-behind c.args.low c.args.high c.args.used.now c.in-Some.run' c.in-Some.ensures
    c.if-low-run.true c.if-high-run.false

pub returns-in_default : goal.returns-in_default
returns-in_default c =
    least-first c.args.low c.args.high c.args.used.now c.requires
    (c.in-Some.ensures.none_behind c.args.low c.if-low-run.false (omega arith))

pub returns-in_default-2 : goal.returns-in_default-2
returns-in_default-2 c =
    let low = c.args.low
    in let used = c.args.used.now
    in let nothing =
    MatchOption-at_none (HasNothingUpTo used low) (IsLastUpTo used low) c.in_default.is
    c.last_up_to.ensures
    in least-first low c.args.high used c.requires (nothing low (omega arith))
