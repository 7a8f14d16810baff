use Rattle.std.proofs.Common.{◌≡◌, ◌&&◌, not, Bool, List, [], ◌∷◌, ◌++◌, sym, ◌∙◌, ap}
use Rattle.std.specs.Prelude.{bytes_eq}
use Rattle.memory_folder.specs.declared.event.Event.{Event as KeptEvent}
use Rattle.memory_folder.specs.declared.event.Event.TheVariants.{Called}
use Rattle.acct_outside.specs.Tokens.{Token}
use Rattle.acct_outside.specs.Life.{is_running}
use Rattle.memory_folder.specs.Events.{ends, history_of}
use Rattle.memory_folder.proofs.EventLemmas.{history_of-push, runs-after}
use Rattle.memory_folder.proofs.log.Log.record.Goals as goal

pub invariant_of-self-2-clause-runs : goal.invariant_of-self-2-clause-runs
invariant_of-self-2-clause-runs c = λ other.
    let self = c.args.self.now in
    let by = c.args.by.now in
    let token = c.in_ok-token.token in
    let last = ends c.args.call c.args.outcome in
    let events = self.events.items in
    let event : KeptEvent = Called token c.args.call c.args.outcome in
    let events_are : c.push_reserved.new.self.items ≡ events ++ event ∷ [] =
    c.push_reserved.ensures.items
    ∙ ap (λ (l : List KeptEvent). l ++ event ∷ []) c.reserve.ensures.items in
    c.drop_ended.ensures.rest other
    ∙ ap (λ (b : Bool). b && not (last && bytes_eq by other)) (self.runs other)
    ∙ ap (λ (t : Token). is_running other (history_of events) && not (last && bytes_eq t other))
    (sym c.in_ok-token.ensures)
    ∙ sym (runs-after token c.args.call c.args.outcome (history_of events) other c.requires)
    ∙ ap (is_running other) (sym (ap history_of events_are ∙ history_of-push events event))
