use Rattle.std.proofs.Common.{◌≡◌, true, sym, ◌∙◌, rules}
use Rattle.std.proofs.lemmas.Result.{IfOk-weaker}
use Rattle.user_creation.proofs.UseraddLemmas.{own-gid}
use Rattle.user_creation.proofs.plan.primary_gid.Goals as goal

pub returns-in-Some : goal.returns-in-Some
returns-in-Some c =
    let makes : c.makes_group.result ≡ true = search rules in
    IfOk-weaker c.own_gid.result _ _ (λ gid is settings has same.
    own-gid c.args.asked.now c.args.tables.now settings c.in-Some.uid gid
    (sym (c.makes_group.ensures settings has) ∙ makes)
    (sym c.in-Some.is ∙ same) (is settings has)) c.own_gid.ensures
