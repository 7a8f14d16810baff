use Rattle.std.proofs.Common.{◌<◌, ◌∙◌, List, length, get_or, ap, subst, sym}
use Rattle.memory_folder.specs.declared.event.Event.{Event as KeptEvent}
use Rattle.memory_folder.proofs.EventLemmas.{known-at}
use Rattle.memory_folder.proofs.log.Log.knows.Goals as goal

pub returns-then-is_of : goal.returns-then-is_of
returns-then-is_of c =
    let place = c.loop-event.event-index in
    let event = c.event-item.result in
    let items = c.deref-event-items.ensures.value in
    let known = known-at c.args.token.now event (sym c.is_of.ensures ∙ c.if-is_of.true)
    c.args.self.now.events.items place
    (subst (λ (l : List KeptEvent). place < length l) items c.loop-event-test.true)
    (c.event-item.is ∙ ap (λ (l : List KeptEvent). get_or l place event) items) in
    (λ is. absurd cc, λ none. absurd (known none))
