use Rattle.std.proofs.Common.{◌≡◌, true, false, refl, sym, ap, ◌∙◌}
use Rattle.std.specs.Prelude.{is_some}
use Rattle.account_model.specs.Userdel.{is_shared}
use Rattle.account_model.specs.Users.{other_users}
use Rattle.user_removal.specs.Others.{has_id}
use Rattle.user_removal.specs.declared.others.AccountId.TheVariants.{Uid}
use Rattle.acct_text.proofs.FoundOnes.{is_some-find}
use Rattle.user_removal.proofs.removal.unshared.Goals as goal

pub returns-then-is_some : goal.returns-then-is_some
returns-then-is_some c =
    let user = c.args.user.now in
    let files = c.args.tables.now in
    let shared : is_shared user files c.args.uid ≡ true =
    is_some-find (has_id (Uid c.args.uid)) (other_users user files)
    ∙ ap is_some (sym (c.in_ok-first_other.ensures {u = tt}))
    ∙ sym c.is_some.ensures ∙ c.if-is_some.true in
    rw shared refl

pub returns : goal.returns
returns c =
    let user = c.args.user.now in
    let files = c.args.tables.now in
    let own : is_shared user files c.args.uid ≡ false =
    is_some-find (has_id (Uid c.args.uid)) (other_users user files)
    ∙ ap is_some (sym (c.in_ok-first_other.ensures {u = tt}))
    ∙ sym c.is_some.ensures ∙ c.if-is_some.false in
    rw own refl
