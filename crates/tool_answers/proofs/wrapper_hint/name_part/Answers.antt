use Rattle.std.proofs.Common.{sym}
use Rattle.acct_text.proofs.CutOnce.{cut-before, uncut-before}
use Rattle.account_model.specs.Text.{equals_sign}
use Rattle.tool_answers.proofs.wrapper_hint.name_part.Goals as goal

pub returns-in-Some : goal.returns-in-Some
returns-in-Some c =
    let cut = c.in-Some.cut in
    sym (cut-before equals_sign c.args.text.now cut.before.now cut.behind.now c.in-Some.ensures.cut)

pub returns-in-None : goal.returns-in-None
returns-in-None c = sym (uncut-before equals_sign c.args.text.now c.in-None.ensures.cut)
