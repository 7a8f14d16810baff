use Rattle.std.proofs.Common.{◌∙◌, ap}
use Rattle.std.specs.Prelude.{codes}
use Rattle.account_model.specs.Chage.{aging_report, chage_refusals, chage_script}
use Rattle.account_model.specs.Request.{has_option, operand}
use Rattle.account_model.specs.Users.{aging_of}
use Rattle.aging_commands.proofs.ChageLemmas.{listed-output}
use Rattle.aging_commands.proofs.listing.chage_output.Goals as goal

pub returns : goal.returns
returns c =
    let request = c.args.asked.now in
    let files = c.args.tables.now in
    listed-output request.tool (chage_refusals request files) (chage_script request files)
    (has_option (codes "l") request) (aging_report (aging_of (operand request) files))
    c.in_ok-aging_of.field-0 c.shown.result (cc (c.has.ensures, c.if-not-has.false))
    (c.in_ok-aging_of.ensures ∙ ap (λ user. aging_report (aging_of user files)) c.operand.ensures)
    c.shown.ensures
