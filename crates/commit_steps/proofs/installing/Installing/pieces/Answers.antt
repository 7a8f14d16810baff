use Rattle.std.proofs.Common.{◌≡◌, ◌∙◌, ℕ, sym, ap, subst, slice_get, Option, Some}
use Rattle.std.specs.Prelude.{option_map, unwrap_or}
use Rattle.intent_file.specs.Intent.{NewTable}
use Rattle.suite_rules.specs.Outcomes.{pieces_left}
use Rattle.commit_steps.specs.States.{Walker, changed}
use Rattle.commit_steps.proofs.InstallLemmas.{pieces-are}
use Rattle.commit_steps.proofs.NextLemmas.{no-table}
use Rattle.commit_steps.proofs.installing.Installing.pieces.Goals as goal

-- with no step left there is no table at the place, and no piece of one
pub returns-then-left-eq0 : goal.returns-then-left-eq0
returns-then-left-eq0 c =
    let walker = c.args.self.now in
    sym (ap (λ (found : Option NewTable).
    unwrap_or (option_map (λ one. pieces_left walker.staged one.bytes) found) 0)
    (no-table walker (sym c.left.ensures ∙ c.if-left-eq0.true)))

pub returns : goal.returns
returns c =
    let walker = c.args.self.now in
    let next = c.next.result.now in
    let is_next = subst (λ (walker : Walker).
    slice_get (changed walker.change) walker.place ≡ Some next)
    c.self.view_is c.next.ensures.is_next in
    c.pieces_left.ensures
    ∙ (ap (pieces_left c.staged.result) c.as_slice.ensures
    ∙ (ap (λ (staged : ℕ). pieces_left staged next.bytes)
    (c.staged.ensures ∙ ap (λ (walker : Walker). walker.staged) c.self.view_is)
    ∙ sym (pieces-are walker next is_next)))
