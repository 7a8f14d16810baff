use Rattle.std.proofs.Common.{◌≡◌, sym, ap, subst, ◌∙◌, slice_get, Some}
use Rattle.commit_steps.specs.States.{Walker, changed, has_staged}
use Rattle.commit_steps.proofs.InstallNextLemmas.{next-new, next-table}
use Rattle.commit_steps.proofs.installing.Installing.install_call.Goals as goal

pub returns-then-has_staged : goal.returns-then-has_staged
returns-then-has_staged c =
    let next = c.next-next.result.now in
    next-table c.args.self.now next
    (subst (λ (one : Walker). slice_get (changed one.change) one.place ≡ Some next) c.self.view_is
    c.next-next.ensures.is_next) c.requires.whole
    (sym (c.has_staged.ensures ∙ ap (λ (one : Walker). has_staged one) c.self.view_is)
    ∙ c.if-has_staged.true) c.move_call.result c.move_call.ensures.names c.move_call.ensures.later

pub returns : goal.returns
returns c =
    let next = c.next-next.result.now in
    next-new c.args.self.now next
    (subst (λ (one : Walker). slice_get (changed one.change) one.place ≡ Some next) c.self.view_is
    c.next-next.ensures.is_next) c.requires.whole
    (sym (c.has_staged.ensures ∙ ap (λ (one : Walker). has_staged one) c.self.view_is)
    ∙ c.if-has_staged.false) c.stage_call.result c.stage_call.ensures.names
    c.stage_call.ensures.later
