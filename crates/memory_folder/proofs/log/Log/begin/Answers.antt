use Rattle.std.proofs.Common.{◌≡◌, ◌||◌, Bool, List, [], ◌∷◌, ◌++◌, Some, sym, ◌∙◌, ap}
use Rattle.std.specs.Prelude.{bytes_eq}
use Rattle.memory_folder.specs.declared.event.Event.{Event as KeptEvent}
use Rattle.memory_folder.specs.declared.event.Event.TheVariants.{Begun}
use Rattle.acct_outside.specs.Tokens.{Token}
use Rattle.acct_outside.specs.Life.{is_running}
use Rattle.memory_folder.specs.Events.{command_of, has_token, history_of}
use Rattle.memory_folder.proofs.EventLemmas.{history_of-push}
use Rattle.memory_folder.proofs.TokenLemmas.{has_token-push, begin-runs}
use Rattle.memory_folder.proofs.log.Log.begin.Goals as goal

pub invariant_of-self-2-clause-runs : goal.invariant_of-self-2-clause-runs
invariant_of-self-2-clause-runs c = λ other.
    let self = c.args.self.now in
    let token = c.args.token in
    let tokens = self.running.items in
    let events = self.events.items in
    let event : KeptEvent = Begun (Some token) c.args.command in
    let events_are : c.push_reserved.new.self.items ≡ events ++ event ∷ [] =
    c.push_reserved.ensures.items
    ∙ ap (λ (l : List KeptEvent). l ++ event ∷ []) c.reserve-2.ensures.items in
    let tokens_are : c.push_reserved-2.new.self.items ≡ tokens ++ c.in_ok-kept.kept ∷ [] =
    c.push_reserved-2.ensures.items
    ∙ ap (λ (l : List Token). l ++ c.in_ok-kept.kept ∷ []) c.reserve.ensures.items in
    ap (has_token other) tokens_are
    ∙ has_token-push tokens c.in_ok-kept.kept other
    ∙ ap (λ (t : Token). has_token other tokens || bytes_eq t other) c.in_ok-kept.ensures
    ∙ ap (λ (b : Bool). b || bytes_eq token other) (self.runs other)
    ∙ sym (begin-runs token (command_of c.args.command) (history_of events) c.requires other)
    ∙ ap (is_running other) (sym (ap history_of events_are ∙ history_of-push events event))
