-- Claims: the call of a session that belongs to a folder in memory is one that it may die in (`may-die`,
-- `runs-there`). Its death there is as the state's call says (`died-so`), keeps a lawful history lawful
-- (`died-lawful`), and leaves each other session that belongs to the folder (`died-others`). Where nothing
-- came, all is as it was (`still-lawful`, `still-others`).
-- Way: the rules permit the call in the standing of its state, with every effect that the folder gives
-- (`died-given`); for others its death is an event of another token.
use Rattle.std.proofs.lemmas.Slice.Eq.{bytes_eq-Decides}
use Rattle.std.specs.Prelude.{OnErr, OnOk}
use Rattle.std.proofs.Common.{◌≡◌, ◌≢◌, refl, sym, ap, subst, ◌∙◌, true, false, Option, Some, None, IfSome, Result, Ok, Err}
use Rattle.memory_folder.specs.declared.memory.MemoryFolder.{MemoryFolder}
use Rattle.acct_outside.specs.declared.Call.{Call as FolderCall}
use Rattle.acct_outside.specs.declared.Call.TheVariants.{Append, Begin, Create, Rename, Remove}
use Rattle.memory_folder.specs.declared.Effect.{Effect as CallEffect}
use Rattle.acct_outside.specs.Calls.{Call, Effect, answers, begins, died}
use Rattle.acct_outside.specs.NamedCalls.{IsLaterCall, call_of}
use Rattle.memory_folder.specs.Events.{actual_effect, effect_in}
use Rattle.acct_outside.specs.Folder.{Folder}
use Rattle.acct_outside.specs.Gives.{GivesResult}
use Rattle.acct_outside.specs.History.{Event, History}
use Rattle.acct_outside.specs.Life.{Life, MayCall, ended, is_running, life, life_step, running, runs_in, unbegun}
use Rattle.memory_folder.specs.Logged.{folder_after, with_event}
use Rattle.memory_folder.specs.Memory.{HasRunning, moment_of, past_of}
use Rattle.acct_outside.specs.Moment.{Past}
use Rattle.acct_outside.specs.Others.{ByOthers, none_came, one_came}
use Rattle.acct_outside.specs.Tokens.{Token}
use Rattle.memory_folder.proofs.EventLemmas.{actual-given}
use Rattle.suite_rules.specs.Deeds.{SuiteDeeds}
use Rattle.suite_rules.specs.Lawful.{KeepsRulesOrNone, Lawful, goes_on}
use Rattle.suite_rules.specs.Rules.{Permits}
use Rattle.suite_rules.specs.Standing.{standing}
use Rattle.lock_steps.specs.NextCall.{IsCallWhere}
use Rattle.suite_session.specs.declared.state.State.{State}
use Rattle.suite_session.specs.declared.session.Phase.{Phase}
use Rattle.suite_session.specs.declared.session.Phase.TheVariants.{Begun}
use Rattle.suite_session.specs.Runner.{IsRead, Runner}
use Rattle.suite_session.specs.Belongs.{IsOnItsWay, OthersCame, of_others}
use Rattle.suite_session.specs.Dying.{DiedIn}
use Rattle.suite_session.specs.NextCall.{HasLock, IsReady, state_call}
use Rattle.suite_session.specs.Session.{token_of}
use Rattle.suite_session.specs.Stands.{StaysOurs}
use Rattle.suite_session.specs.Turning.{KeepsOthers}
use Rattle.suite_session.proofs.BelongsLemmas.{belonging-stays, state-runs}
use Rattle.suite_session.proofs.NextLemmas.{has-lock, next-ready}

-- ---- A death in a call

-- the death of the session of a token within a call, with an effect
abbrev pub death_of : Past → Token → Call → Effect → Event
death_of before token call effect = record {
  token = token;
  call = call;
  result = died (actual_effect (folder_after before) call effect);
}

-- a running session may make each later call
later-may : (named : FolderCall) → IsLaterCall named → MayCall running (call_of named)
later-may Begin later = absurd later
later-may named later = tt

-- the rules allow a death within a call that they allow
died-keeps : (deeds : SuiteDeeds) (history : History) (token : Token) (call : Call)
    (effect : Effect) → MayCall (life token history) call →
    Permits deeds (standing token history) call →
    KeepsRulesOrNone deeds history token call (died effect)
died-keeps deeds history token (begins command) effect may permits = tt
died-keeps deeds history token call effect may permits =
    record { life_rule = may; permitted = permits }

-- the folder gives a death within a later call
died-given : (folder : Folder) (history : History) (token : Token) (named : FolderCall)
    (effect : Effect) → IsLaterCall named →
    GivesResult folder history token (call_of named)
    (died (actual_effect folder (call_of named) effect))
died-given folder history token Begin effect later = absurd later
died-given folder history token (Create number) effect later =
    actual-given folder (Create number) effect
died-given folder history token (Append name piece) effect later =
    actual-given folder (Append name piece) effect
died-given folder history token (Rename from to) effect later =
    actual-given folder (Rename from to) effect
died-given folder history token (Remove name) effect later =
    actual-given folder (Remove name) effect
died-given folder history token named effect later = tt

-- a session that ran runs no more after its death
died-ends : (call : Call) (effect : Effect) (lived : Life) → runs_in lived ≡ true →
    runs_in (life_step call (died effect) lived) ≡ false
died-ends (answers status) effect running is = refl
died-ends call effect unbegun is = cc
died-ends call effect ended is = cc
died-ends call effect lived is = refl

module _ (before : MemoryFolder) (runner : Runner) (state : State)
    (way : IsOnItsWay (moment_of before) runner state) where
  -- it runs there
  pub runs-there : HasRunning before runner.token
  runs-there =
      record { runs = (state-runs (moment_of before) runner way.own way.led.stands).runs }

  module _ (named : FolderCall)
      (is_call : IsCallWhere (HasLock state) (IsReady state) (state_call state) named) where
    -- its call is one that it may die in
    pub may-die : IsLaterCall named
    may-die = is_call.later (has-lock (moment_of before) runner state way)

    module _ (now : MemoryFolder) (effect : CallEffect)
        (told : past_of now ≡ with_event (death_of (past_of before) runner.token (call_of named)
        (effect_in effect)) (past_of before)) where
      -- so the folder tells it, by the call of the state
      told-so : past_of now ≡ with_event (death_of (past_of before) runner.token (state_call state)
          (effect_in effect)) (past_of before)
      told-so = told ∙ ap (λ (call : Call). with_event (death_of (past_of before) runner.token call
          (effect_in effect)) (past_of before)) is_call.names

      -- it is as the state's call says
      pub died-so : DiedIn (past_of before) (past_of now) runner.token (state_call state) effect
      died-so = record {
        told = told-so;
        ended = subst (λ (past : Past). is_running runner.token past.history ≡ false) (sym told-so)
            (rw ((bytes_eq-Decides runner.token runner.token).1 refl)
            (died-ends (state_call state) _
            (life runner.token (past_of before).history) runs-there.runs));
      }

      -- it keeps a lawful history lawful
      pub died-lawful : IsRead runner.asked →
          StaysOurs (moment_of before) (moment_of now)
      died-lawful read deeds ours =
          let old = past_of before in
          let ready = next-ready (moment_of before) runner deeds ours read state
          (subst (λ (call : Call). MayCall running call) is_call.names (later-may named may-die))
          way in (
            ap (λ (past : Past). past.first) told-so,
            λ others lawful. subst (λ (past : Past). Lawful deeds old.first past.history)
                (sym told-so) (goes_on (death_of old runner.token (state_call state)
                (effect_in effect)) old.history lawful (record {
                  keeps = died-keeps deeds old.history runner.token (state_call state) _ ready.may
                      (is_call.permitted deeds (standing runner.token old.history) ready.ready);
                  gives = subst (λ (call : Call). GivesResult (folder_after old) old.history
                      runner.token call
                      (died (actual_effect (folder_after old) call (effect_in effect))))
                      is_call.names (died-given (folder_after old) old.history runner.token named
                      (effect_in effect) may-die);
                })),
          )

      -- for a session of another token it is an event of others
      died-came : (held : Option Token) → held ≢ Some runner.token →
          IfSome held (OthersCame (moment_of before) (moment_of now))
      died-came None differs = tt
      died-came (Some token) differs = record {
        came = (
          ap (λ (past : Past). past.first) told-so,
          subst (λ (past : Past). ByOthers (of_others token) (past_of before).history past.history)
              (sym told-so) (one_came _ (past_of before).history none_came
              (λ is. differs (ap (λ (one : Token). Some one) (sym is)))),
        );
        narrows = λ history event admitted. admitted;
      }

      -- each other session that belongs to the folder does so still
      pub died-others : KeepsOthers (moment_of before) (moment_of now) (Begun runner state)
          (Begun runner state)
      died-others other belongs apart = record {
        belongs = belonging-stays (moment_of before) (moment_of now) other belongs
            (died-came (token_of other) (λ is. apart runner.token refl is));
        apart = apart;
      }

-- ---- Where nothing came

module _ (before now : MemoryFolder) (same : past_of now ≡ past_of before) where
  -- the history is as lawful as it was
  pub still-lawful : StaysOurs (moment_of before) (moment_of now)
  still-lawful deeds ours = (
    ap (λ (past : Past). past.first) same,
    λ others lawful. subst (λ (past : Past). Lawful deeds (past_of before).first past.history)
        (sym same) lawful,
  )

  -- and no event came for whatever token
  none-for : (held : Option Token) → IfSome held (OthersCame (moment_of before) (moment_of now))
  none-for None = tt
  none-for (Some token) = record {
    came = (
      ap (λ (past : Past). past.first) same,
      subst (λ (past : Past). ByOthers (of_others token) (past_of before).history past.history)
          (sym same) none_came,
    );
    narrows = λ history event admitted. admitted;
  }

  -- each other session belongs to the folder still, beside one that got no token
  pub still-others : (old new : Phase) →
      ((token : Token) → token_of new ≡ Some token → token_of old ≡ Some token) →
      KeepsOthers (moment_of before) (moment_of now) old new
  still-others old new had other belongs apart = record {
    belongs = belonging-stays (moment_of before) (moment_of now) other belongs
        (none-for (token_of other));
    apart = λ token is also. apart token (had token is) also;
  }

-- ---- Whether there was memory for its event

module _ (before : MemoryFolder) (runner : Runner) (state : State)
    (way : IsOnItsWay (moment_of before) runner state) (named : FolderCall)
    (is_call : IsCallWhere (HasLock state) (IsReady state) (state_call state) named)
    (now : MemoryFolder) (effect : CallEffect) {E : Type 0} (result : Result (Unit {0}) E)
    (told : OnOk result (past_of now ≡ with_event (death_of (past_of before) runner.token
    (call_of named) (effect_in effect)) (past_of before)))
    (kept : OnErr result (past_of now ≡ past_of before)) where
  -- with it, the session died so
  pub dies-then : OnOk result ((Begun runner state ≡ Begun runner state)
      × DiedIn (past_of before) (past_of now) runner.token (state_call state) effect)
  dies-then = by-result result told
    where
      by-result : (one : Result (Unit {0}) E) →
          OnOk one (past_of now ≡ with_event (death_of (past_of before) runner.token (call_of named)
          (effect_in effect)) (past_of before)) →
          OnOk one ((Begun runner state ≡ Begun runner state)
          × DiedIn (past_of before) (past_of now) runner.token (state_call state) effect)
      by-result (Ok unit) came =
          (refl, died-so before runner state way named is_call now effect came)
      by-result (Err fault) came = tt

  -- in either case a lawful history stays lawful
  pub lawful-then : IsRead runner.asked →
      StaysOurs (moment_of before) (moment_of now)
  lawful-then read = by-result result told kept
    where
      by-result : (one : Result (Unit {0}) E) →
          OnOk one (past_of now ≡ with_event (death_of (past_of before) runner.token (call_of named)
          (effect_in effect)) (past_of before)) → OnErr one (past_of now ≡ past_of before) →
          StaysOurs (moment_of before) (moment_of now)
      by-result (Ok unit) came same =
          died-lawful before runner state way named is_call now effect came read
      by-result (Err fault) came same = still-lawful before now same

  -- and each other session belongs to the folder still
  pub others-then : KeepsOthers (moment_of before) (moment_of now) (Begun runner state)
      (Begun runner state)
  others-then = by-result result told kept
    where
      by-result : (one : Result (Unit {0}) E) →
          OnOk one (past_of now ≡ with_event (death_of (past_of before) runner.token (call_of named)
          (effect_in effect)) (past_of before)) → OnErr one (past_of now ≡ past_of before) →
          KeepsOthers (moment_of before) (moment_of now) (Begun runner state) (Begun runner state)
      by-result (Ok unit) came same =
          died-others before runner state way named is_call now effect came
      by-result (Err fault) came same = still-others before now same (Begun runner state)
          (Begun runner state) (λ token is. is)

-- what always holds, holds where there was no memory
pub on-err : {A E : Type 0} (result : Result A E) (P : Type 0) → P → OnErr result P
on-err (Ok value) P holds = tt
on-err (Err fault) P holds = holds
