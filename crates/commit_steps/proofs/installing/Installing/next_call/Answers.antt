use Rattle.std.specs.Prelude.{IfOk}
use Rattle.std.proofs.Common.{◌≡◌, ℕ, sym, ap, subst, ◌∙◌, slice_get, Some, arith}
use Rattle.acct_outside.specs.NamedCalls.{call_of}
use Rattle.suite_rules.specs.Outcomes.{stages_more}
use Rattle.commit_steps.specs.States.{Walker, changed}
use Rattle.commit_steps.proofs.InstallNextLemmas.{next-piece, next-removal}
use Rattle.commit_steps.proofs.installing.Installing.next_call.Goals as goal

pub returns-then-left-eq0 : goal.returns-then-left-eq0
returns-then-left-eq0 c = next-removal c.args.self.now (sym c.left.ensures ∙ c.if-left-eq0.true)

pub returns-then-pieces-ne0 : goal.returns-then-pieces-ne0
returns-then-pieces-ne0 c =
    let walker = c.args.self.now in
    let next = c.next.result.now in
    let count = c.pieces.ensures in
    let some = c.if-pieces-ne0.true in
    next-piece walker next
    (subst (λ (one : Walker). slice_get (changed one.change) one.place ≡ Some next) c.self.view_is
    c.next.ensures.is_next) (omega (arith, count, some)) c.append_call.result
    (subst (λ (place : ℕ). IfOk c.append_call.result
    (λ call. call_of call ≡ stages_more place next))
    (c.staged.ensures ∙ ap (λ (one : Walker). one.staged) c.self.view_is)
    c.append_call.ensures.names)
    c.append_call.ensures.later
