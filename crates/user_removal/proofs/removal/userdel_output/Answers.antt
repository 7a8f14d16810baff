-- The notices are those of the user's own group, by whichever settings it is found.
use Rattle.std.proofs.Common.{◌≡◌, ◌∙◌, ap}
use Rattle.std.proofs.lemmas.Result.{IfOk-weaker}
use Rattle.account_model.specs.Messages.{messages}
use Rattle.tool_answers.specs.declared.decision.Output.{Output}
use Rattle.user_removal.specs.KeptGroups.{notices_of_group}
use Rattle.user_removal.proofs.removal.userdel_output.Goals as goal

pub returns : goal.returns
returns c = IfOk-weaker c.noticed.result _ _ (λ output is settings holds. record {
  status = ap (λ (one : Output). one.status) is;
  output = ap (λ (one : Output). one.out) is;
  notices = ap (λ (one : Output). one.err) is
      ∙ (ap (λ tool. messages tool c.in_ok-notices.notices) c.tool.ensures
      ∙ ap (messages c.args.asked.now.tool)
      (c.in_ok-notices.ensures ∙ ap (notices_of_group c.args.asked.now c.args.tables.now)
      (c.in_ok-group.ensures settings holds)));
}) c.noticed.ensures
