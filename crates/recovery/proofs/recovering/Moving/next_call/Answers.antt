use Rattle.std.proofs.Common.{◌≡◌, ◌<◌, ◌∙◌, sym, subst, slice_get, Some}
use Rattle.std.specs.Prelude.{IfOk}
use Rattle.acct_outside.specs.NamedCalls.{call_of}
use Rattle.suite_rules.specs.Outcomes.{stages_more}
use Rattle.recovery.specs.States.{Mover}
use Rattle.recovery.proofs.NextLemmas.{appends-next, moves-next, some-left}
use Rattle.recovery.proofs.recovering.Moving.next_call.Goals as goal

pub returns-then-pieces-eq0 : goal.returns-then-pieces-eq0
returns-then-pieces-eq0 c =
    let next = c.next.result.now in
    moves-next c.args.self.now next
    (subst (λ (one : Mover). slice_get one.left 0 ≡ Some next) c.self.view_is c.next.ensures)
    c.move_call.result
    (subst (λ (one : Mover). 0 < one.staged) c.self.view_is c.self.invariant.1)
    (sym c.pieces.ensures ∙ c.if-pieces-eq0.true) c.move_call.ensures.names
    c.move_call.ensures.later

pub returns : goal.returns
returns c =
    let next = c.next-2.result.now in
    let is_next = subst (λ (one : Mover). slice_get one.left 0 ≡ Some next) c.self.view_is
    c.next-2.ensures in
    appends-next c.args.self.now next is_next c.append_call.result
    (some-left _ _ c.pieces.ensures c.if-pieces-eq0.false)
    (subst (λ (one : Mover). IfOk c.append_call.result
    (λ call. call_of call ≡ stages_more one.staged next)) c.self.view_is
    c.append_call.ensures.names)
    c.append_call.ensures.later
