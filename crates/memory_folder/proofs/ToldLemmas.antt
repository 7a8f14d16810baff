-- What a folder in memory tells after a call: nothing new, or the call's event and no other.
use Rattle.std.proofs.Common.{◌≡◌, Bool, true, false, List, [], ◌∷◌, Option, Some, None, Result, Ok, Err, refl, sym, ◌∙◌, ap, subst, cond}
use Rattle.std.specs.Prelude.{IsErr, IsErrAnd, IfOk, IfErr, IsSome, OnErr, bytes_eq, is_none, ◌||◌}
use Rattle.std.proofs.lemmas.Bool.{cond-true}
use Rattle.acct_text.specs.Bytes.{Bytes}
use Rattle.memory_folder.specs.declared.Effect.{Effect as CallEffect}
use Rattle.memory_folder.specs.declared.Effect.TheVariants.{Nothing}
use Rattle.acct_outside.specs.declared.Verdict.{Verdict}
use Rattle.acct_outside.specs.declared.Verdict.TheVariants.{Alive, Dead}
use Rattle.acct_outside.specs.declared.FolderFault.{FolderFault}
use Rattle.acct_outside.specs.declared.FolderFault.TheVariants.{Failed, Memory}
use Rattle.acct_outside.specs.Tokens.{Token, IsToken}
use Rattle.acct_outside.specs.Folder.{Folder}
use Rattle.acct_outside.specs.Calls.{Call, Answer, CallResult, Effect, Command, nothing, done, failed}
use Rattle.acct_outside.specs.History.{Event, History, after, own_events}
use Rattle.acct_outside.specs.Life.{Life, unbegun, running, faulted, ended, life, runs_in, is_running}
use Rattle.acct_outside.specs.Gives.{GivesResult, GivesVerdict}
use Rattle.acct_outside.specs.NamedCalls.{call_of}
use Rattle.memory_folder.specs.Events.{begin_event}
use Rattle.acct_outside.proofs.TokenLemmas.{bytes_eq-self, unbegun-without}
use Rattle.memory_folder.proofs.TokenLemmas.{begin-runs, or_true}
use Rattle.acct_outside.specs.Others.{ByOthers, none_came}
use Rattle.acct_outside.specs.Moment.{Past}
use Rattle.acct_outside.specs.Contract.{was_begun, MayAct, WhereTold, TellsCall, TellsEvent, TellsBegin}
use Rattle.memory_folder.specs.Logged.{with_event}
use Rattle.memory_folder.specs.NewTokens.{IsFirstUnused}
use Rattle.memory_folder.specs.Memory.{moment_of, no_others, past_of, HasRunning, TellsAct, TellsFailure}
use Rattle.memory_folder.specs.declared.memory.MemoryFolder.{MemoryFolder}
use Rattle.acct_outside.specs.declared.Call.{Call as FolderCall}

-- the result is one that the folder gives there
abbrev pub gives_after : (token : Token) (call : Call)
    → Folder → History → CallResult (Answer call) → Type 0
gives_after token call first between result =
    GivesResult (after first between) between token call result

module _ (old new : Past) (token : Token) (call : Call)
    (gives : Folder → History → CallResult (Answer call) → Type 0) where
  -- what the call tells, with the results that the folder gives
  abbrev pub Told : Result (Answer call) FolderFault → Type 0
  Told result =
      WhereTold (Some old) (Some new)
      (λ first before now. TellsCall no_others token call (gives first) result before now)

  -- the call's event with this result
  abbrev pub event : CallResult (Answer call) → Event
  event result = record { token = token; call = call; result = result }

  -- the call's event came, and no other
  told_event : (result : CallResult (Answer call))
      → new ≡ with_event (event result) old
      → gives old.first old.history result
      → TellsEvent no_others token call result (gives old.first) old.history new.history
  told_event result is given = record {
    others_then = record {
      between = old.history;
      others = none_came;
      last = ap (λ (past : Past). past.history) is;
    };
    given = given;
  }

  -- the first moment stays
  same_first : {e : Event} → new ≡ with_event e old → new.first ≡ old.first
  same_first is = ap (λ (past : Past). past.first) is

  -- want of memory tells nothing new
  pub told_memory : new ≡ old → Told (Err Memory)
  told_memory same = (
    ap (λ (past : Past). past.first) same,
    subst (λ (past : Past). ByOthers no_others old.history past.history) (sym same) none_came,
  )

  -- a failure tells the event of a call that failed
  pub told_failed : (effect : Effect)
      → new ≡ with_event (event (failed effect)) old
      → gives old.first old.history (failed effect)
      → Told (Err Failed)
  told_failed effect is given = (same_first is, (effect, told_event (failed effect) is given))

  -- an answer tells the event of a call that was done
  pub told_done : (answer : Answer call)
      → new ≡ with_event (event (done answer)) old
      → gives old.first old.history (done answer)
      → Told (Ok answer)
  told_done answer is given = (same_first is, told_event (done answer) is given)

  -- want of memory that a call passes on
  pub told_want : {T : Type 0} (shown : Result T FolderFault → Result (Answer call) FolderFault)
      → shown (Err Memory) ≡ Err Memory
      → (result : Result T FolderFault)
      → IsErr result × IsErrAnd result (λ fault. fault ≡ Memory)
      → new ≡ old
      → Told (shown result)
  told_want shown memory_is (Ok value) is same = absurd (cc (is.0))
  told_want shown memory_is (Err fault) is same =
      subst Told (sym (ap (λ (f : FolderFault). shown (Err f)) (is.1) ∙ memory_is))
      (told_memory same)

-- a verdict that the folder gives
pub verdict_given : (history : History) (asked : Token) (verdict : Verdict)
    → (verdict ≡ Dead → is_running asked history ≡ false)
    → GivesVerdict history asked verdict
verdict_given history asked Alive dead = tt
verdict_given history asked Dead dead = dead refl

module _ (old new : Past) (command : Command) where
  -- what a begin tells
  abbrev pub Begins : Result Token FolderFault → Type 0
  Begins result = WhereTold (Some old) (Some new) (TellsBegin no_others command result)

  -- want of memory tells nothing new
  pub begin_memory : new ≡ old → Begins (Err Memory)
  begin_memory same = (
    ap (λ (past : Past). past.first) same,
    subst (λ (past : Past). ByOthers no_others old.history past.history) (sym same) none_came,
  )

  -- a begin that failed tells an event without a token
  pub begin_failed : new ≡ with_event (begin_event None command) old → Begins (Err Failed)
  begin_failed is = (
    ap (λ (past : Past). past.first) is,
    (
      nothing,
      record {
        others_then = record {
          between = old.history;
          others = none_came;
          last = ap (λ (past : Past). past.history) is;
        };
        given = refl;
      },
    ),
  )

  -- a begin that gave no answer
  pub begin_fault : (fault : FolderFault)
      → (fault ≡ Failed → new ≡ with_event (begin_event None command) old)
      → (fault ≡ Memory → new ≡ old)
      → Begins (Err fault)
  begin_fault Failed on_failure on_want = begin_failed (on_failure refl)
  begin_fault Memory on_failure on_want = begin_memory (on_want refl)

  -- a begin that gave a token which no event has tells its event, the first of the session
  pub begin_done : (token : Token)
      → IsToken token
      → own_events token old.history ≡ []
      → new ≡ with_event (begin_event (Some token) command) old
      → Begins (Ok token)
  begin_done token is_token is_new is =
      let event : Event = begin_event (Some token) command in
      let last : new.history ≡ event ∷ old.history = ap (λ (past : Past). past.history) is in
      let own : own_events token (event ∷ old.history) ≡ event ∷ own_events token old.history =
      cond-true {A = History} (bytes_eq token token) (event ∷ own_events token old.history)
      (own_events token old.history) (bytes_eq-self token) in (
        ap (λ (past : Past). past.first) is,
        (
          record {
            others_then = record { between = old.history; others = none_came; last = last };
            given = (is_token, unbegun-without token old.history is_new);
          },
          ap (own_events token) last ∙ own ∙ ap (λ (h : History). event ∷ h) is_new,
        ),
      )

-- a begin that started a session, or found no memory
pub begin_started : (old new : Past) (outsiders : List Token) (command : Command)
    (result : Result Token FolderFault)
    → IfOk result (λ token. new ≡ with_event (begin_event (Some token) command) old)
    → IfOk result IsToken
    → IfOk result (IsFirstUnused old outsiders)
    → IfErr result (λ fault. fault ≡ Memory)
    → OnErr result (new ≡ old)
    → Begins old new command result
begin_started old new outsiders command (Ok token) is is_token first memory same =
    begin_done old new command token is_token first.unused.no_event is
begin_started old new outsiders command (Err fault) is is_token first memory same =
    subst (λ (f : FolderFault). Begins old new command (Err f)) (sym memory)
    (begin_memory old new command same)

-- a session that has begun runs
pub begun_runs : (old new : Past) (command : Command) (token : Token)
    → own_events token old.history ≡ []
    → new ≡ with_event (begin_event (Some token) command) old
    → is_running token new.history ≡ true
begun_runs old new command token is_new is =
    ap (λ (past : Past). is_running token past.history) is
    ∙ begin-runs token command old.history is_new token
    ∙ ap (λ (b : Bool). is_running token old.history || b) (bytes_eq-self token)
    ∙ or_true (is_running token old.history)

-- a call whose source or name stands, since it isn't to fail by itself
pub source-stands : (content : Option Bytes) (planned : Option CallEffect)
    → cond (is_none content) (Some Nothing) planned ≡ None
    → IsSome content
source-stands None planned due = absurd cc
source-stands (Some bytes) planned due = refl

-- want of memory that a changing call passes on
pub act_want : (old new : MemoryFolder) (token : Token) (call : FolderCall)
    (result : Result (Unit {0}) FolderFault)
    → IsErr result × IsErrAnd result (λ fault. fault ≡ Memory)
    → past_of new ≡ past_of old
    → TellsAct old new token call result
act_want old new token call (Ok unit) is same = absurd (cc (is.0))
act_want old new token call (Err fault) is same =
    subst (TellsFailure old new token (call_of call)) (sym (is.1))
    (told_memory (past_of old) (past_of new) token (call_of call)
    (gives_after token (call_of call)) same)

-- a session that runs has begun
running-begun : (before : Life) → runs_in before ≡ true → was_begun before ≡ true
running-begun unbegun runs = absurd cc
running-begun running runs = refl
running-begun faulted runs = refl
running-begun ended runs = absurd cc

-- a session that runs in a folder in memory may call it
pub may_act : (folder : MemoryFolder) (token : Token) → HasRunning folder token
    → MayAct (moment_of folder) token
may_act folder token is = record {
  begun = running-begun (life token (past_of folder).history) is.runs;
  own = λ history e admitted same. absurd admitted;
}
