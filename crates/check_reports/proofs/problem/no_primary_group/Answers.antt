use Rattle.std.proofs.Common.{◌∙◌, ◌++◌, ap, sym, append_assoc}
use Rattle.std.specs.Prelude.{codes}
use Rattle.std.specs.Fmt.{decimal}
use Rattle.std.proofs.lemmas.Result.{IfOk-weaker}
use Rattle.check_reports.proofs.problem.no_primary_group.Goals as goal

pub returns : goal.returns
returns c =
    let user = codes "user " in
    let name = c.args.name.now in
    let lacks = codes " has no primary group " in
    let gid = decimal c.args.gid in
    IfOk-weaker c.made_of.result _ _ (λ text is.
    is
    ∙ ap (λ number. user ++ (name ++ (lacks ++ decimal number))) c.from.ensures
    ∙ sym (append_assoc (user ++ name) lacks gid ∙ append_assoc user name (lacks ++ gid)))
    c.made_of.ensures
