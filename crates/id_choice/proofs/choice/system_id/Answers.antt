use Rattle.id_choice.proofs.ChoiceLemmas.{system-before, system-free}
use Rattle.account_model.specs.Ids.{LastOfUnused}
use Rattle.id_choice.proofs.choice.system_id.Goals as goal

pub returns-in-None : goal.returns-in-None
returns-in-None c = LastOfUnused c.requires c.in-None.ensures

pub returns-in-Some : goal.returns-in-Some
returns-in-Some c =
    system-before c.args.low c.args.high c.args.used.now c.in-Some.id c.in-Some.ensures
    c.if-low-id.true

pub returns-in-Some-2 : goal.returns-in-Some-2
returns-in-Some-2 c =
    system-free c.args.low c.args.high c.args.used.now c.in-Some.id c.greatest_free.result
    c.in-Some.ensures c.if-low-id.false c.greatest_free.ensures
