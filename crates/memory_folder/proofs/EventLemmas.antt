-- What an event of a folder in memory does, and which result the folder gives.
use Rattle.std.proofs.Common.{◌≡◌, refl, sym, zero, suc, ◌+◌, ◌<◌, ◌≤◌, length, take, get_or, arith, List, [], ◌∷◌, ◌++◌, map, reverse, not, ◌&&◌, inl, inr, Bool, true, false, cond, ℕ, None, Some, Option, ◌∙◌, ap}
use Rattle.std.specs.Prelude.{bytes_eq, IsNone}
use Rattle.std.specs.Option.{is_some, is_none}
use Rattle.acct_outside.specs.declared.Name.{Name}
use Rattle.acct_outside.specs.declared.Name.TheVariants.{Lock}
use Rattle.std.proofs.lemmas.Bool.{cases_Bool, cond-true, cond-false}
use Rattle.std.proofs.lemmas.List.{map-append, reverse-append, take_all, take_more}
use Rattle.acct_text.specs.Bytes.{Bytes}
use Rattle.acct_outside.specs.declared.Created.{Created}
use Rattle.acct_outside.specs.declared.Created.TheVariants.{Done as Fresh, Exists}
use Rattle.acct_outside.specs.declared.Call.{Call as FolderCall}
use Rattle.acct_outside.specs.declared.Call.TheVariants.{Begin, Create, Append, Rename, Remove, Answered}
use Rattle.memory_folder.specs.declared.event.Outcome.{Outcome}
use Rattle.memory_folder.specs.declared.event.Outcome.TheVariants.{Done, Failed, Died}
use Rattle.memory_folder.specs.declared.event.Event.{Event as KeptEvent}
use Rattle.memory_folder.specs.declared.event.Answer.{Answer as KeptAnswer}
use Rattle.acct_outside.specs.Tokens.{Token}
use Rattle.acct_outside.specs.Folder.{Folder}
use Rattle.acct_outside.specs.Calls.{Call, Effect, happened, nothing, failed, creates, appends, renames, done, effect_of, changed_by}
use Rattle.acct_outside.specs.History.{History, after_event, is_of, own_events}
use Rattle.acct_outside.specs.Life.{Life, unbegun, ended, life, life_step, runs_in, is_running}
use Rattle.acct_outside.specs.Gives.{GivesEffect, GivesResult}
use Rattle.acct_outside.specs.NamedCalls.{IsLaterCall, call_of}
use Rattle.memory_folder.specs.Events.{MayFail, actual_effect, event_of, history_of, ends, call_event, result_in, answer_in, created_in, says_exists, answers_exists}

-- a call that did nothing changes nothing
pub nothing-changes : (token : Token) (call : Call) (folder : Folder)
    → changed_by token call nothing folder ≡ folder
nothing-changes token (creates number) folder = refl
nothing-changes token call folder = refl

-- a create that found its lock did nothing
create_exists : (number : ℕ) (created : Created) → says_exists created ≡ true
    → effect_of (creates number) (done created) ≡ nothing
create_exists number Exists is = refl
create_exists number Fresh is = absurd cc

-- a create that made its lock happened
create_happens : (number : ℕ) (created : Created) → says_exists created ≡ false
    → effect_of (creates number) (done created) ≡ happened
create_happens number Exists is = absurd cc
create_happens number Fresh is = refl

-- a call that answered that its lock stands did nothing
pub exists-nothing : (call : Call) (answer : KeptAnswer) → answers_exists call answer ≡ true
    → effect_of call (done (answer_in call answer)) ≡ nothing
exists-nothing (creates number) answer is = create_exists number (created_in answer) is
exists-nothing _ answer is = absurd cc

-- every other call that is done has happened
pub done-happened : (call : Call) (answer : KeptAnswer) → answers_exists call answer ≡ false
    → effect_of call (done (answer_in call answer)) ≡ happened
done-happened (creates number) answer is = create_happens number (created_in answer) is
done-happened _ answer is = refl

-- the folder after an event with this outcome, where its call had this effect
pub after-effect : (token : Token) (call : FolderCall) (outcome : Outcome) (effect : Effect)
    (folder : Folder)
    → effect_of (call_of call) (result_in (call_of call) outcome) ≡ effect
    → after_event (call_event token call outcome) folder
    ≡ changed_by token (call_of call) effect folder
after-effect token call outcome effect folder is =
    ap (λ (e : Effect). changed_by token (call_of call) e folder) is

-- a create that answered that its lock stands leaves the folder as it is
pub after-exists : (token : Token) (call : FolderCall) (outcome : Outcome) (answer : KeptAnswer)
    (folder : Folder)
    → outcome ≡ Done answer
    → answers_exists (call_of call) answer ≡ true
    → after_event (call_event token call outcome) folder ≡ folder
after-exists token call outcome answer folder is exists =
    let effect : Outcome → Effect = λ o. effect_of (call_of call) (result_in (call_of call) o) in
    after-effect token call outcome nothing folder
    (ap effect is ∙ exists-nothing (call_of call) answer exists)
    ∙ nothing-changes token (call_of call) folder

-- every other call that was done does what it does where it happens
pub after-done : (token : Token) (call : FolderCall) (outcome : Outcome) (answer : KeptAnswer)
    (folder : Folder)
    → outcome ≡ Done answer
    → answers_exists (call_of call) answer ≡ false
    → after_event (call_event token call outcome) folder
    ≡ changed_by token (call_of call) happened folder
after-done token call outcome answer folder is other =
    let effect : Outcome → Effect = λ o. effect_of (call_of call) (result_in (call_of call) o) in
    after-effect token call outcome happened folder
    (ap effect is ∙ done-happened (call_of call) answer other)

-- a later call leaves a session running, unless it is its last
runs-step : (call : FolderCall) → IsLaterCall call → (outcome : Outcome) (l : Life)
    → runs_in (life_step (call_of call) (result_in (call_of call) outcome) l)
    ≡ runs_in l && not (ends call outcome)
runs-step Begin later outcome l = absurd later
runs-step (Answered status) later outcome unbegun = refl
runs-step _ later (Done answer) ended = refl
runs-step _ later (Failed effect) ended = refl
runs-step _ later (Died effect) ended = refl
runs-step call later outcome life = refl

-- a test that comes to nothing
and_nothing : (runs last : Bool) → runs ≡ runs && not (last && false)
and_nothing true true = refl
and_nothing true false = refl
and_nothing false last = refl

-- a test that comes to another
and_itself : (runs last : Bool) → runs && not last ≡ runs && not (last && true)
and_itself true true = refl
and_itself true false = refl
and_itself false last = refl

-- the sessions that run after a later call: all that ran, but the caller where it was its last
pub runs-after : (token : Token) (call : FolderCall) (outcome : Outcome) (history : History)
    (other : Token)
    → IsLaterCall call
    → is_running other (call_event token call outcome ∷ history)
    ≡ is_running other history && not (ends call outcome && bytes_eq token other)
runs-after token call outcome history other later =
    elim (cases_Bool (bytes_eq token other)) [
      | inl own ↦
          rw own (runs-step call later outcome (life other history)
          ∙ and_itself (is_running other history) (ends call outcome))
      | inr apart ↦ rw apart (and_nothing (is_running other history) (ends call outcome))
    ]

-- the history of events with one more
pub history_of-push : (events : List KeptEvent) (event : KeptEvent)
    → history_of (events ++ event ∷ []) ≡ event_of event ∷ history_of events
history_of-push events event =
    ap reverse (map-append event_of events (event ∷ []))
    ∙ reverse-append (map event_of events) (event_of event ∷ [])

module _ (token : Token) (event : KeptEvent) (own : is_of token (event_of event) ≡ true) where
  -- a front of the events behind an own one has own events
  known_to : (events : List KeptEvent) (place count : ℕ)
      → place < count → count ≤ length events → event ≡ get_or events place event
      → ¬ (own_events token (history_of (take count events)) ≡ [])
  known_to events place zero low within at none = absurd (omega arith)
  known_to events place (suc count) low within at none =
      let last : KeptEvent = get_or events count event in
      let front : History = history_of (take count events) in
      let number : suc count ≡ count + 1 = omega arith in
      let is : history_of (take (suc count) events) ≡ event_of last ∷ front =
      ap (λ (n : ℕ). history_of (take n events)) number
      ∙ ap history_of (take_more events count event (omega arith))
      ∙ history_of-push (take count events) last in
      let none_last : own_events token (event_of last ∷ front) ≡ [] =
      ap (own_events token) (sym is) ∙ none in
      elim (cases_Bool (is_of token (event_of last))) [
        | inl hit ↦
            absurd (cc (
              none_last,
              cond-true {A = History} (is_of token (event_of last))
                  (event_of last ∷ own_events token front) (own_events token front) hit,
            ))
        | inr miss ↦
            let later : ¬ (place ≡ count) = λ same.
            cc (own, miss, at ∙ ap (λ (n : ℕ). get_or events n event) same) in
            let below : place < count = grind (arith, later) in
            known_to events place count below (omega arith) at
            (sym (cond-false {A = History} (is_of token (event_of last))
            (event_of last ∷ own_events token front) (own_events token front) miss) ∙ none_last)
      ]

  -- events of which one is the session's have own events
  pub known-at : (events : List KeptEvent) (place : ℕ)
      → place < length events → event ≡ get_or events place event
      → ¬ (own_events token (history_of events) ≡ [])
  known-at events place low at none =
      known_to events place (length events) low (omega arith) at
      (ap (λ (l : List KeptEvent). own_events token (history_of l))
      (take_all (length events) events (omega arith)) ∙ none)

-- what isn't there is None
none-of : (content : Option Bytes) → is_none content ≡ true → IsNone content
none-of None is = refl
none-of (Some bytes) is = absurd cc

-- a create that fails has happened only where its lock doesn't stand
create-given : (folder : Folder) (number : ℕ) (free : Bool)
    → is_none (folder.file (Lock number)) ≡ free
    → GivesEffect folder (creates number) (cond free happened nothing)
create-given folder number true is = none-of (folder.file (Lock number)) is
create-given folder number false is = tt

-- an append that fails has happened only where its name stands
append-given : (folder : Folder) (name : Name) (piece : Bytes) (there : Bool)
    → is_some (folder.file name) ≡ there
    → GivesEffect folder (appends name piece) (cond there happened nothing)
append-given folder name piece true is = is
append-given folder name piece false is = tt

-- a rename that fails has happened only where its source stands
rename-given : (folder : Folder) (from to : Name) (there : Bool)
    → is_some (folder.file from) ≡ there
    → GivesEffect folder (renames from to) (cond there happened nothing)
rename-given folder from to true is = is
rename-given folder from to false is = tt

-- the folder gives the effect that a failed call has
pub actual-given : (folder : Folder) (call : FolderCall) (effect : Effect)
    → GivesEffect folder (call_of call) (actual_effect folder (call_of call) effect)
actual-given folder (Create number) happened =
    create-given folder number (is_none (folder.file (Lock number))) refl
actual-given folder (Append name piece) happened =
    append-given folder name piece (is_some (folder.file name)) refl
actual-given folder (Rename from to) happened =
    rename-given folder from to (is_some (folder.file from)) refl
actual-given folder (Remove name) happened = tt
actual-given folder call effect = tt

-- a call that may fail gives that it failed with such an effect
pub failed-given : (folder : Folder) (history : History) (token : Token) (call : FolderCall)
    → MayFail call
    → (effect : Effect)
    → GivesResult folder history token (call_of call)
    (failed (actual_effect folder (call_of call) effect))
failed-given folder history token Begin may effect = absurd may
failed-given folder history token (Answered status) may effect = absurd may
failed-given folder history token call may effect = actual-given folder call effect
