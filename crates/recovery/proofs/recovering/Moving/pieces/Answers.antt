use Rattle.std.proofs.Common.{◌≡◌, ◌∙◌, sym, ap, subst, slice_get, Some}
use Rattle.suite_rules.specs.Outcomes.{pieces_left}
use Rattle.recovery.specs.States.{Mover}
use Rattle.recovery.proofs.NextLemmas.{pieces-are}
use Rattle.recovery.proofs.recovering.Moving.pieces.Goals as goal

pub returns : goal.returns
returns c =
    let moving = c.args.self.now in
    let next = c.next.result.now in
    let is_next = subst (λ (one : Mover). slice_get one.left 0 ≡ Some next) c.self.view_is
    c.next.ensures in
    c.pieces_left.ensures
    ∙ (ap (pieces_left c.self.inside.staged) c.as_slice.ensures
    ∙ (ap (λ (one : Mover). pieces_left one.staged next.bytes) c.self.view_is
    ∙ sym (pieces-are moving next is_next)))
