use Rattle.std.proofs.Common.{arith}
use Rattle.account_model.specs.Ids.{AfterGreatest, FirstOfUnused}
use Rattle.id_choice.proofs.ChoiceLemmas.{regular-free}
use Rattle.id_choice.proofs.choice.regular_id.Goals as goal

pub returns-in-None : goal.returns-in-None
returns-in-None c = FirstOfUnused c.requires c.in-None.ensures

pub returns-in-Some : goal.returns-in-Some
returns-in-Some c = AfterGreatest c.in-Some.ensures (omega (arith, c.if-id-high.true))

pub returns-in-Some-2 : goal.returns-in-Some-2
returns-in-Some-2 c =
    regular-free c.args.low c.args.high c.args.used.now c.in-Some.id c.least_free.result
    c.in-Some.ensures c.if-id-high.false c.least_free.ensures
