use Rattle.std.proofs.Common.{◌∙◌, sym}
use Rattle.user_creation.proofs.UseraddLemmas.{free-beside}
use Rattle.user_creation.proofs.plan.own_gid.Goals as goal

pub returns-then-not-branch : goal.returns-then-not-branch
returns-then-not-branch c = λ settings has.
    free-beside c.args.asked.now c.args.tables.now settings c.args.uid
    (sym (c.in_ok-is_gid_used.ensures {u = tt}) ∙ c.if-not-branch.true)
