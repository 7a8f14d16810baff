use Rattle.std.proofs.Common.{◌≡◌, sym, ap, subst, ◌∙◌, [], slice_get, Option, Some}
use Rattle.std.specs.Prelude.{IsSomeAnd, unwrap_or}
use Rattle.acct_text.specs.Bytes.{Bytes}
use Rattle.intent_file.specs.Intent.{NewTable}
use Rattle.commit_steps.specs.States.{Change, Walker, changed, old_bytes}
use Rattle.commit_steps.proofs.backing.Backing.old.Goals as goal

pub returns : goal.returns
returns c =
    let walker = c.args.self.now in
    let next = c.next.result.now in
    let change = c.prepared.ensures ∙ ap (λ (one : Walker). one.change) c.self.view_is in
    let is_next = subst (λ (one : Walker). slice_get (changed one.change) one.place ≡ Some next)
    c.self.view_is c.next.ensures.is_next in
    subst (λ (found : Option NewTable). IsSomeAnd found
    (λ one. c.as_slice.result.now ≡ old_bytes walker.change one.table)) (sym is_next)
    (c.as_slice.ensures ∙ (sym (ap (λ (content : Option Bytes). unwrap_or content [])
    c.old.ensures) ∙ ap (λ (one : Change). old_bytes one next.table) change))
