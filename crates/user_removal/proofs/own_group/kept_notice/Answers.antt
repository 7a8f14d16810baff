use Rattle.std.proofs.Common.{sym, ap, ◌∙◌}
use Rattle.std.specs.Prelude.{Some, None, find, option_map}
use Rattle.account_model.specs.Request.{operand}
use Rattle.account_model.specs.Userdel.{kept_text}
use Rattle.account_model.specs.Userdel.KeptGroup.{has_members, is_primary_of}
use Rattle.account_model.specs.Users.{other_users}
use Rattle.user_removal.specs.KeptGroups.{has_others}
use Rattle.user_removal.specs.Others.{has_id}
use Rattle.user_removal.specs.declared.others.AccountId.TheVariants.{Gid}
use Rattle.user_removal.proofs.UserdelLemmas.{kept-members, kept-never, kept-primary}
use Rattle.user_removal.proofs.own_group.kept_notice.Goals as goal

pub returns-then-has_others : goal.returns-then-has_others
returns-then-has_others c =
    let asked = c.args.asked.now in
    let user = c.operand-user.ensures in
    ap Some (c.in_ok-members_notice.ensures {u = tt} ∙ ap (λ u. kept_text u has_members) user)
    ∙ ap (option_map (kept_text (operand asked)))
    (kept-members asked c.args.tables.now c.args.group.now
    (sym (c.has_others.ensures ∙ ap (λ u. has_others u c.args.group.now.members) user)
    ∙ c.if-has_others.true))

pub returns-then-has : goal.returns-then-has
returns-then-has c =
    let asked = c.args.asked.now in
    let user = c.operand-user.ensures in
    ap (option_map (kept_text (operand asked)))
    (kept-never asked c.args.tables.now c.args.group.now
    (sym (c.has_others.ensures ∙ ap (λ u. has_others u c.args.group.now.members) user)
    ∙ c.if-has_others.false) (sym c.has.ensures ∙ c.if-has.true))

pub returns-in_ok-primary_notice-in-Some : goal.returns-in_ok-primary_notice-in-Some
returns-in_ok-primary_notice-in-Some c =
    let asked = c.args.asked.now in
    let files = c.args.tables.now in
    let group = c.args.group.now in
    let user = c.operand-user.ensures in
    ap Some (c.in_ok-primary_notice-in-Some.ensures {u = tt}
    ∙ ap (λ u. kept_text u (is_primary_of c.as_slice.result.now)) user
    ∙ ap (λ other. kept_text (operand asked) (is_primary_of other)) c.as_slice.ensures)
    ∙ ap (option_map (kept_text (operand asked)))
    (kept-primary asked files group (Some c.in-Some.other)
    (sym (c.has_others.ensures ∙ ap (λ u. has_others u group.members) user)
    ∙ c.if-has_others.false) (sym c.has.ensures ∙ c.if-has.false)
    (sym c.in-Some.is ∙ c.in_ok-other.ensures {u = tt}
    ∙ ap (λ u. find (has_id (Gid group.gid)) (other_users u files)) user))

pub returns-in-None : goal.returns-in-None
returns-in-None c =
    let asked = c.args.asked.now in
    let files = c.args.tables.now in
    let group = c.args.group.now in
    let user = c.operand-user.ensures in
    ap (option_map (kept_text (operand asked)))
    (kept-primary asked files group None
    (sym (c.has_others.ensures ∙ ap (λ u. has_others u group.members) user)
    ∙ c.if-has_others.false) (sym c.has.ensures ∙ c.if-has.false)
    (sym c.in-None.is ∙ c.in_ok-other.ensures {u = tt}
    ∙ ap (λ u. find (has_id (Gid group.gid)) (other_users u files)) user))
