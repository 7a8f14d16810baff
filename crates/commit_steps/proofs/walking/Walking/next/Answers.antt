use Rattle.std.proofs.Common.{◌≡◌, ◌<◌, sym, ap, subst, length, slice_get, Some, List}
use Rattle.std.specs.Prelude.{IsSome, nat_lt}
use Rattle.std.proofs.lemmas.Option.{slice_get_read}
use Rattle.intent_file.specs.Intent.{NewTable}
use Rattle.commit_steps.specs.States.{Walker, changed, old_files, steps_left}
use Rattle.commit_steps.proofs.TablesLemmas.{next-stood, place-within}
use Rattle.commit_steps.proofs.walking.Walking.next.Goals as goal

pub returns-clause-stands : goal.returns-clause-stands
returns-clause-stands c =
    let change = c.self.inside.prepared in
    let place = c.self.inside.place in
    let next = c.index-tables-self.result in
    let some = subst (λ (walker : Walker). 0 < steps_left walker) (sym c.self.view_is) c.requires in
    let within =
    place-within (length (changed change)) place (nat_lt 0 c.self.inside.staged) some in
    let is_next = subst (λ (tables : List NewTable). slice_get tables place ≡ Some next)
    c.tables.ensures.value
    (slice_get_read c.tables.result.now (length (changed change)) place next
    (sym (ap length c.tables.ensures.value)) within c.index-tables-self.is) in
    subst (λ (walker : Walker). IsSome (old_files walker.change next.table)) c.self.view_is
    (next-stood change place next is_next c.tables.ensures.change)
