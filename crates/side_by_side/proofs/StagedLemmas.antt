-- Claims: a call of a staged folder is the events of its sessions, and then the call of the folder in
-- memory (`passes-after`, `tells-after`, `begins-after`); where the sessions found no memory it is their
-- events alone. Who calls it is an outsider (`acting-outside`), so its sessions take part
-- still after the call (`part-after`), and none of its events is admitted (`never-outsiders`). A begin
-- makes an outsider (`begun-outside`).
-- Way: an event of a session that is no outsider is admitted after an unlawful history, so the folder
-- admits none only of outsiders. A call in memory adds one event at most (`told-one`, `begun-one`).
use Rattle.std.proofs.Common.{◌≡◌, ◌≢◌, ◌⊎◌, inl, inr, refl, sym, ap, subst, ◌∙◌, ◌∷◌, [], true, List, get_or, Option, Some, None, IfSome, Result, Ok, Err, true≢false, arith}
use Rattle.std.specs.Prelude.{All, bytes_eq}
use Rattle.std.proofs.lemmas.Bool.{cond-true}
use Rattle.acct_outside.specs.declared.FolderFault.{FolderFault}
use Rattle.acct_outside.specs.declared.FolderFault.TheVariants.{Failed, Memory}
use Rattle.acct_outside.specs.Tokens.{Token}
use Rattle.acct_outside.specs.Folder.{Folder}
use Rattle.acct_outside.specs.Calls.{Answer, Call, CallResult, Command, answers, begins, done}
use Rattle.acct_outside.specs.Journal.{Entry}
use Rattle.acct_outside.specs.Contract.{MayAct, MayAnswer, NeverAdmits, Passes, TellsBegin, TellsCall, TellsEvent, WhereTold, has_begun, was_begun}
use Rattle.acct_outside.specs.Faults.{CountsFailure}
use Rattle.acct_outside.specs.History.{Event, History, own_events}
use Rattle.acct_outside.specs.Life.{Life, life, runs_in, unbegun, ended}
use Rattle.memory_folder.specs.Memory.{no_others}
use Rattle.acct_outside.specs.Others.{ByOthers, none_came, one_came}
use Rattle.acct_outside.proofs.BegunLemmas.{begun-running}
use Rattle.acct_outside.proofs.TokenLemmas.{bytes_eq-self}
use Rattle.suite_rules.specs.Deeds.{SuiteDeeds}
use Rattle.suite_rules.specs.Lawful.{Lawful, goes_on}
use Rattle.suite_session.specs.declared.session.Phase.{Phase}
use Rattle.suite_session.specs.declared.session.Phase.TheVariants.{Begun}
use Rattle.suite_session.specs.Belongs.{OthersCame, of_others}
use Rattle.suite_session.specs.Session.{token_of}
use Rattle.suite_session.proofs.BelongsLemmas.{belonging-stays, present}
use Rattle.side_by_side.specs.Scenes.{HasBegun, HasDied, IsOver, Scene, TakePart, TakesPart, Telling, moment_in}
use Rattle.side_by_side.specs.Advances.{Advances, IsOutsider, KeepsLawful, by_sessions}
use Rattle.side_by_side.specs.Staged.{staged}
use Rattle.side_by_side.proofs.ActLemmas.{began-life, life-stays, token-named}
use Rattle.side_by_side.proofs.SceneLemmas.{begun-event, came-then}

-- ---- One event of a call in memory

-- no event came, or one of this token
pub record OneCame (before now : Telling) (token : Token) : Type 0 where
  pub first : now.past.first ≡ before.past.first
  pub came : (now.past.history ≡ before.past.history)
      ⊎ ((event : Event) × (now.past.history ≡ event ∷ before.past.history)
      × (event.token ≡ token))

-- a folder in memory adds no events of others
none-others : (old new : History) → ByOthers no_others old new → new ≡ old
none-others old _ none_came = refl
none-others old _ (one_came event new came admitted) = absurd admitted

-- so a told event is the one
event-one : (token : Token) (call : Call) (result : CallResult (Answer call))
    (gives : History → CallResult (Answer call) → Type 0) (old new : History) →
    TellsEvent no_others token call result gives old new →
    (event : Event) × (new ≡ event ∷ old) × (event.token ≡ token)
event-one token call result gives old new tells = (
  record { token = token; call = call; result = result },
  tells.others_then.last
      ∙ ap (λ (history : History). record { token = token; call = call; result = result } ∷ history)
      (none-others old tells.others_then.between tells.others_then.others),
  refl,
)

module _ (before now : Telling) (token : Token) (call : Call)
    (gives : Folder → History → CallResult (Answer call) → Type 0) where
  -- a told call adds one at most
  pub told-one : (result : Result (Answer call) FolderFault) →
      WhereTold (Some before.past) (Some now.past)
      (λ first old new. TellsCall no_others token call (gives first) result old new) →
      OneCame before now token
  told-one (Ok answer) told = record {
    first = told.0;
    came = inr (event-one token call _ _ before.past.history now.past.history told.1);
  }
  told-one (Err Failed) told = record {
    first = told.0;
    came = inr (event-one token call _ _ before.past.history now.past.history told.1.1);
  }
  told-one (Err Memory) told = record {
    first = told.0;
    came = inl (none-others before.past.history now.past.history told.1);
  }

-- the token that a begin gave, and none where it failed
abbrev pub begun_token : Result Token FolderFault → Token
begun_token (Ok token) = token
begun_token (Err fault) = []

-- a told begin adds one at most
pub begun-one : (before now : Telling) (command : Command) (result : Result Token FolderFault) →
    WhereTold (Some before.past) (Some now.past) (TellsBegin no_others command result) →
    OneCame before now (begun_token result)
begun-one before now command (Ok token) told = record {
  first = told.0;
  came = inr (event-one token (begins command) _ _ before.past.history now.past.history told.1.0);
}
begun-one before now command (Err Failed) told = record {
  first = told.0;
  came = inr (event-one [] (begins command) _ _ before.past.history now.past.history told.1.1);
}
begun-one before now command (Err Memory) told = record {
  first = told.0;
  came = inl (none-others before.past.history now.past.history told.1);
}

-- ---- What a call leaves

module _ (before now : Telling) (token : Token) (one : OneCame before now token) where
  -- what has begun has done so still
  begun-still : (other : Token) → HasBegun before.past other → HasBegun now.past other
  begun-still other has = record {
    named = has.named;
    begun = elim one.came [
      | inl same ↦ ap (has_begun other) same ∙ has.begun
      | inr event ↦ ap (has_begun other) event.1
          ∙ begun-event other event.0 before.past.history has.begun
    ];
  }

  -- what has ended has done so still
  ended-still : (other : Token) → other ≢ token → IsOver before.past other →
      IsOver now.past other
  ended-still other differs has = record {
    named = has.named;
    ended = elim one.came [
      | inl same ↦ ap (life other) same ∙ has.ended
      | inr event ↦ ap (life other) event.1
          ∙ life-stays other event.0 before.past.history
          (λ is. differs (sym is ∙ event.2)) ∙ has.ended
    ];
  }

  -- for another session only events of others came
  others-still : (other : Token) → other ≢ token →
      OthersCame (moment_in before) (moment_in now) other
  others-still other differs = record {
    came = (
      one.first,
      elim one.came [
        | inl same ↦ subst (λ (history : History). ByOthers (of_others other)
            before.past.history history)
            (sym same) none_came
        | inr event ↦ subst (λ (history : History). ByOthers (of_others other)
            before.past.history history)
            (sym event.1)
            (one_came event.0 before.past.history none_came (λ is. differs (sym is ∙ event.2)))
      ],
    );
    narrows = λ history event admitted. admitted;
  }

module _ (before now : Telling) (token : Token) (one : OneCame before now token) where
  -- a session of another token takes part still
  takes-still : (session : Phase) → token_of session ≢ Some token → TakesPart before session →
      TakesPart now session
  takes-still session differs (inl belongs) = inl (belonging-stays (moment_in before)
      (moment_in now) session belongs (by-token (token_of session) differs))
    where
      by-token : (held : Option Token) → held ≢ Some token →
          IfSome held (OthersCame (moment_in before) (moment_in now))
      by-token None apart = tt
      by-token (Some other) apart = others-still before now token one other
          (λ is. apart (ap (λ (own : Token). Some own) is))
  takes-still session differs (inr dead) = inr (by-phase session differs dead)
    where
      by-phase : (session : Phase) → token_of session ≢ Some token → HasDied before session →
          HasDied now session
      by-phase (Begun runner state) apart has = ended-still before now token one runner.token
          (λ is. apart (ap (λ (own : Token). Some own) is)) has
      by-phase session apart has = absurd has

  -- so all take part still, where none has the token
  pub part-after : (sessions : List Phase) →
      All (λ session. token_of session ≢ Some token) sessions →
      TakePart (record { told = before; sessions = sessions }) →
      TakePart (record { told = now; sessions = sessions })
  part-after sessions strangers part = record {
    each = λ k d within. takes-still (get_or sessions k d) (strangers k d within)
        (part.each k d within);
    apart = part.apart;
  }

-- ---- Who calls

-- an event that no lawful history begins with
lawless : Token → Event
lawless token = record { token = token; call = answers 0; result = done tt }

-- a history of it isn't lawful
not-lawful : (token : Token) (deeds : SuiteDeeds) (first : Folder) →
    Lawful deeds first (lawless token ∷ []) → ⊥
unfolding lawless
not-lawful token deeds first (goes_on _ _ lawful next) = next.keeps.life_rule

module _ (here : Scene) (token : Token) where
  -- where it isn't so that the session is no outsider, that event of it is admitted
  lawless-admitted : (IsOutsider here token → ⊥) →
      by_sessions here (lawless token ∷ []) (lawless token)
  unfolding lawless
  lawless-admitted inside = (
    λ deeds are lawful. absurd (not-lawful token deeds here.told.past.first lawful),
    inside,
  )

  -- so of whom no event is admitted is an outsider
  outside : has_begun token here.told.past.history ≡ true → NeverAdmits (by_sessions here) token →
      IsOutsider here token
  unfolding lawless
  outside begun never = record {
    begun = record {
      named = λ none. never (lawless token ∷ []) (lawless token)
          (lawless-admitted (λ outsider. outsider.begun.named none)) refl;
      begun = begun;
    };
    stranger = λ k d within has. never (lawless token ∷ []) (lawless token)
        (lawless-admitted (λ outsider. outsider.stranger k d within has)) refl;
  }

  -- who may call is one
  pub acting-outside : (journal : List Entry) → MayAct (staged here journal) token →
      IsOutsider here token
  acting-outside journal may = outside may.begun may.own

  -- who may answer is one
  pub answering-outside : (journal : List Entry) → MayAnswer (staged here journal) token →
      IsOutsider here token
  answering-outside journal may = outside (by-life (life token here.told.past.history) may.runs)
      may.own
    where
      by-life : (now : Life) → runs_in now ≡ true → was_begun now ≡ true
      by-life unbegun is = absurd (true≢false (sym is))
      by-life now is = refl

  -- of an outsider no event is admitted
  pub never-outsiders : IsOutsider here token → NeverAdmits (by_sessions here) token
  never-outsiders outsider history event admitted is =
      admitted.1 (subst (IsOutsider here) (sym is) outsider)

-- ---- A call of a staged folder

module _ (before between now : Scene) (advances : Advances before between)
    (same : now.sessions ≡ between.sessions) where
  -- an outsider stays one
  outsider-after : (token : Token) → OneCame between.told now.told token → (other : Token) →
      IsOutsider before other → IsOutsider now other
  outsider-after token one other outsider =
      let there = advances.outsiders other outsider in record {
        begun = begun-still between.told now.told token one other there.begun;
        stranger = subst (All (λ session. token_of session ≢ Some other)) (sym same) there.stranger;
      }

  -- the folder admits no more than before
  narrows-after : (token : Token) → OneCame between.told now.told token → (history : History)
      (event : Event) → by_sessions now history event → by_sessions before history event
  narrows-after token one history event admitted = (
    subst (λ (first : Folder). KeepsLawful first history event) (one.first ∙ advances.first)
        admitted.0,
    λ outsider. admitted.1 (outsider-after token one event.token outsider),
  )

  -- the first claim: its parts but what is told
  pub passes-after : {T : Type 0} (token : Token) → OneCame between.told now.told token →
      (Told : Type 0) → Told → (result : Result T FolderFault) →
      CountsFailure Failed between.told.faults now.told.faults result →
      (was journal : List Entry) (entry : Entry) → journal ≡ entry ∷ was →
      Passes (staged before was) (staged now journal) Told entry result
  passes-after token one Told told result counts was journal entry noted = record {
    told = told;
    narrows = narrows-after token one;
    faults = record {
      never_falls =
          let first = advances.never_falls in
          let then = counts.never_falls in omega (arith, first, then);
      failed = λ is. elim (counts.failed is) [
        | inl less ↦ inl (let first = advances.never_falls in omega (arith, first, less))
        | inr last ↦ inr last
      ];
    };
    noted = noted;
  }

  -- an event that is told after those that came
  event-after : (token : Token) (call : Call) (result : CallResult (Answer call))
      (given : History → CallResult (Answer call) → Type 0) →
      TellsEvent no_others token call result given between.told.past.history
      now.told.past.history →
      TellsEvent (by_sessions before) token call result given before.told.past.history
      now.told.past.history
  event-after token call result given tells = record {
    others_then = record {
      between = tells.others_then.between;
      others = came-then (by_sessions before) no_others before.told.past.history
          between.told.past.history tells.others_then.between advances.came
          (λ history event admitted. absurd admitted) tells.others_then.others;
      last = tells.others_then.last;
    };
    given = tells.given;
  }

  module _ (token : Token) (call : Call)
      (gives : Folder → History → CallResult (Answer call) → Type 0) where
    -- whatever the call answered
    call-after : (first : Folder) (result : Result (Answer call) FolderFault) →
        TellsCall no_others token call (gives first) result between.told.past.history
        now.told.past.history →
        TellsCall (by_sessions before) token call (gives first) result before.told.past.history
        now.told.past.history
    call-after first (Ok answer) tells = event-after token call (done answer) (gives first) tells
    call-after first (Err Failed) tells = (tells.0, event-after token call _ (gives first) tells.1)
    call-after first (Err Memory) tells =
        came-then (by_sessions before) no_others before.told.past.history
        between.told.past.history now.told.past.history advances.came
        (λ history event admitted. absurd admitted) tells

    -- the first claim: what is told
    pub tells-after : (result : Result (Answer call) FolderFault) →
        WhereTold (Some between.told.past) (Some now.told.past)
        (λ first old new. TellsCall no_others token call (gives first) result old new) →
        WhereTold (Some before.told.past) (Some now.told.past)
        (λ first old new. TellsCall (by_sessions before) token call (gives first) result old new)
    tells-after result told = (
      told.0 ∙ advances.first,
      subst (λ (first : Folder). TellsCall (by_sessions before) token call (gives first) result
          before.told.past.history now.told.past.history) advances.first
          (call-after between.told.past.first result told.1),
    )

  module _ (command : Command) where
    -- a begin that is told after those that came
    begin-after : (first : Folder) (result : Result Token FolderFault) →
        TellsBegin no_others command result first between.told.past.history
        now.told.past.history →
        TellsBegin (by_sessions before) command result first before.told.past.history
        now.told.past.history
    begin-after first (Ok token) tells =
        (event-after token (begins command) (done tt) _ tells.0, tells.1)
    begin-after first (Err Failed) tells = (
      tells.0,
      event-after [] (begins command) _ _ tells.1,
    )
    begin-after first (Err Memory) tells =
        came-then (by_sessions before) no_others before.told.past.history
        between.told.past.history now.told.past.history advances.came
        (λ history event admitted. absurd admitted) tells

    -- the first claim: what a begin tells
    pub begins-after : (result : Result Token FolderFault) →
        WhereTold (Some between.told.past) (Some now.told.past)
        (TellsBegin no_others command result) →
        WhereTold (Some before.told.past) (Some now.told.past)
        (TellsBegin (by_sessions before) command result)
    begins-after result told = (
      told.0 ∙ advances.first,
      subst (λ (first : Folder). TellsBegin (by_sessions before) command result first
          before.told.past.history now.told.past.history) advances.first
          (begin-after between.told.past.first result told.1),
    )

-- ---- A begin

-- a session that takes part has events, and its token isn't empty
module _ (told : Telling) where
  has-events : (session : Phase) → TakesPart told session → (token : Token) →
      token_of session ≡ Some token →
      (own_events token told.past.history ≡ [] → ⊥) × (token ≢ [])
  has-events session (inl belongs) token is =
      let there = present (moment_in told) session belongs token is in
      (there.some, λ none. there.named (sym none))
  has-events session (inr dead) token is = by-phase session dead is
    where
      by-phase : (session : Phase) → HasDied told session → token_of session ≡ Some token →
          (own_events token told.past.history ≡ [] → ⊥) × (token ≢ [])
      by-phase (Begun runner state) has at =
          let same : runner.token ≡ token = cc at in (
            λ none. began-life token told.past.history none
                (ap was_begun (subst (λ (one : Token). life one told.past.history ≡ ended) same
                has.ended)),
            λ none. has.named (same ∙ none),
          )
      by-phase session has at = absurd has

-- what follows the first of a list
behind : (one same : Event) (rest none : History) → one ∷ rest ≡ same ∷ none → rest ≡ none
behind one same rest none is = cc is

module _ (before now : Telling) (command : Command) (token : Token)
    (told : WhereTold (Some before.past) (Some now.past) (TellsBegin no_others command (Ok token)))
  where
    -- the token had no events
    new-token : own_events token before.past.history ≡ []
    new-token =
        let event : Event = record { token = token; call = begins command; result = done tt } in
        let there = told.1.0.others_then in
        let last : now.past.history ≡ event ∷ before.past.history =
        there.last ∙ ap (λ (history : History). event ∷ history)
        (none-others before.past.history there.between there.others) in
        behind event event (own_events token before.past.history) []
        (sym (cond-true {A = History} (bytes_eq token token)
        (event ∷ own_events token before.past.history) (own_events token before.past.history)
        (bytes_eq-self token))
        ∙ sym (ap (own_events token) last) ∙ told.1.1)

    -- so it is no session's that takes part
    new-strangers : (sessions : List Phase) → All (TakesPart before) sessions →
        All (λ session. token_of session ≢ Some token) sessions
    new-strangers sessions each k d within is =
        (has-events before (get_or sessions k d) (each k d within) token is).0 new-token

    -- a begin makes an outsider
    pub begun-outside : (sessions : List Phase) → All (TakesPart before) sessions →
        IsOutsider (record { told = now; sessions = sessions }) token
    begun-outside sessions each = record {
      begun = record {
        named = token-named token told.1.0.given.0;
        begun = ap was_begun (begun-running no_others command token before.past.first
            before.past.history now.past.history told.1);
      };
      stranger = new-strangers sessions each;
    }

-- none of the sessions has the token that a begin gave, or the empty one
pub begin-strangers : (before now : Telling) (command : Command)
    (result : Result Token FolderFault) →
    WhereTold (Some before.past) (Some now.past) (TellsBegin no_others command result) →
    (sessions : List Phase) → All (TakesPart before) sessions →
    All (λ session. token_of session ≢ Some (begun_token result)) sessions
begin-strangers before now command (Ok token) told sessions each k d within is =
    new-strangers before now command token told sessions each k d within is
begin-strangers before now command (Err fault) told sessions each k d within is =
    (has-events before (get_or sessions k d) (each k d within) [] is).1 refl
