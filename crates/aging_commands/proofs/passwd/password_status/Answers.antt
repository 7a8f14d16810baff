use Rattle.std.proofs.Common.{◌∙◌, ap}
use Rattle.std.proofs.lemmas.Result.{IfOk-weaker}
use Rattle.account_model.specs.Passwd.{status_line}
use Rattle.aging_commands.proofs.PasswdLemmas.{counting-status}
use Rattle.aging_commands.proofs.passwd.password_status.Goals as goal

pub returns : goal.returns
returns c =
    let user = c.args.user.now in
    IfOk-weaker c.status_line.result _ _
    (λ line is. is
    ∙ ap (λ r. status_line user r.hash r) (c.in_ok-counting.ensures {u = tt})
    ∙ counting-status user c.args.tables.now)
    c.status_line.ensures
