use Rattle.std.proofs.Common.{arith}
use Rattle.std.proofs.lemmas.Option.{MatchOption-at_none}
use Rattle.id_choice.specs.Runs.{HasNothingFrom, IsFirstFrom}
use Rattle.id_choice.proofs.ChoiceLemmas.{greatest-before, greatest-last, none-free}
use Rattle.id_choice.proofs.choice.greatest_free.Goals as goal

pub returns-in-Some : goal.returns-in-Some
returns-in-Some c =
    none-free c.args.low c.args.high c.args.used.now c.in-Some.run'
    c.in-Some.ensures.whole.filled c.if-run-low.true c.in-Some.ensures.ends

pub returns-in-Some-2 : goal.returns-in-Some-2
returns-in-Some-2 c =
    greatest-before c.args.low c.args.high c.args.used.now c.in-Some.run' c.in-Some.ensures
    c.if-run-high.true c.if-run-low.false

pub returns-in_default : goal.returns-in_default
returns-in_default c =
    greatest-last c.args.low c.args.high c.args.used.now c.requires
    (c.in-Some.ensures.none_before c.args.high (omega arith) c.if-run-high.false)

pub returns-in_default-2 : goal.returns-in_default-2
returns-in_default-2 c =
    let high = c.args.high
    in let used = c.args.used.now
    in let nothing =
    MatchOption-at_none (HasNothingFrom used high) (IsFirstFrom used high) c.in_default.is
    c.first_from.ensures
    in greatest-last c.args.low high used c.requires (nothing high (omega arith))
