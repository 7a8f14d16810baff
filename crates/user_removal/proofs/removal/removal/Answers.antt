use Rattle.std.proofs.Common.{sym, ap, ◌∙◌}
use Rattle.account_model.specs.Request.{operand}
use Rattle.account_model.specs.Tables.{followed_by}
use Rattle.account_model.specs.Userdel.{remove_user}
use Rattle.account_model.proofs.ScriptLaws.{followed-none}
use Rattle.user_removal.specs.KeptGroups.{removal_of_group}
use Rattle.user_removal.proofs.removal.removal.Goals as goal

pub returns : goal.returns
returns c =
    let asked = c.args.asked.now in
    let files = c.args.tables.now in
    let group = removal_of_group asked files c.args.group.now in
    c.in_ok-remove_own_group.ensures {u = tt}
    ∙ ap (λ script. followed_by script group) (c.in_ok-remove_user.ensures {u = tt})
    ∙ ap (λ script. followed_by (followed_by script (remove_user c.operand.result.now files)) group)
    c.new-script.ensures
    ∙ ap (λ user. followed_by (remove_user user files) group) c.operand.ensures
    ∙ ap (followed_by (remove_user (operand asked) files)) (sym (followed-none group))
