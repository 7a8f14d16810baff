use Rattle.std.proofs.Common.{◌∙◌, ap}
use Rattle.std.specs.Prelude.{codes}
use Rattle.account_model.specs.Request.{has_option, operand}
use Rattle.account_model.specs.Passwd.{password_status, passwd_refusals, passwd_script}
use Rattle.aging_commands.proofs.ChageLemmas.{listed-output}
use Rattle.aging_commands.proofs.passwd.passwd_output.Goals as goal

pub returns : goal.returns
returns c =
    let request = c.args.asked.now in
    let files = c.args.tables.now in
    listed-output request.tool (passwd_refusals request files) (passwd_script request files)
    (has_option (codes "S") request) (password_status (operand request) files)
    c.in_ok-password_status.field-0 c.shown.result (cc (c.has.ensures, c.if-not-has.false))
    (c.in_ok-password_status.ensures ∙ ap (λ user. password_status user files) c.operand.ensures)
    c.shown.ensures
