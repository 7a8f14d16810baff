use Rattle.std.proofs.Common.{◌≡◌, [], ◌∷◌, ap, ◌∙◌, subst}
use Rattle.std.specs.Prelude.{None}
use Rattle.account_model.specs.Refusals.{missing_user}
use Rattle.account_model.specs.Request.{operand}
use Rattle.account_model.specs.Tables.{in_order}
use Rattle.account_model.specs.Text.{first_some}
use Rattle.account_model.specs.Userdel.{remove_user}
use Rattle.user_removal.specs.KeptGroups.{removal_of_group}
use Rattle.user_removal.proofs.removal.userdel.Goals as goal

pub returns : goal.returns
returns c = λ settings has.
    let asked = c.args.asked.now in
    let files = c.args.tables.now in
    record {
      unrefused = ap (λ refusal. first_some (refusal ∷ []))
          (subst (λ user. missing_user user files ≡ None) c.operand.ensures
          (c.in_ok-check_user.ensures {u = tt}));
      edits = c.in_ok-removal.ensures {u = tt}
          ∙ ap (λ group. in_order
          (remove_user (operand asked) files ∷ removal_of_group asked files group ∷ []))
          (c.in_ok-group.ensures {u = tt} settings has);
    }
