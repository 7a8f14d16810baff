-- Claim: of a session that was alone since a moment, of which no call failed, and which has moved all that
-- it staged, each staging name is absent or as it stood then (`alone-staging`).
-- Way: call by call (StagingSteps). A session that runs and had no fault has only calls that were done,
-- behind its begin (`steps`); its answer comes last (`answer-holds`).
use Rattle.std.proofs.Common.{◌≡◌, ◌≢◌, ◌⊎◌, refl, sym, ap, subst, ◌∙◌, ◌∷◌, ◌++◌, [], true, inl, inr, ℕ}
use Rattle.std.specs.List.{AllByRecursion}
use Rattle.std.proofs.lemmas.Slice.Eq.{bytes_eq-Decides}
use Rattle.acct_outside.specs.Tokens.{Token}
use Rattle.acct_outside.specs.Folder.{Folder, moved}
use Rattle.acct_outside.specs.Calls.{Call, Answer, CallResult, Effect, begins, answers, done, failed, died, effect_of, changed_by}
use Rattle.acct_outside.specs.Gives.{GivesResult}
use Rattle.acct_outside.specs.History.{Event, History, after, own_events}
use Rattle.acct_outside.specs.Life.{Life, MayCall, ended, faulted, life, life_after_call, life_step, running, runs_in, unbegun}
use Rattle.suite_rules.specs.Deeds.{SuiteDeeds}
use Rattle.suite_rules.specs.OwnLock.{OwnLock, lock_kept, lock_freed}
use Rattle.suite_rules.specs.Standing.{Standing, standing, standing_step}
use Rattle.suite_rules.specs.Lawful.{IsNext, KeepsRulesOrNone, Lawful, goes_on}
use Rattle.suite_session.specs.Causes.{HasFailed}
use Rattle.suite_session.specs.Staging.{HasMovedAll}
use Rattle.suite_course.specs.Alone.{IsAlone, IsUnstaged}
use Rattle.suite_course.proofs.AloneLemmas.{no-events}
use Rattle.suite_course.proofs.AloneStays.{event-permitted}
use Rattle.suite_course.proofs.StagingSteps.{IsGoneOrAs, StagingAlone, begin-step, done-step}

-- ---- Call by call

-- a session that runs, or hasn't begun
abbrev IsActive : Life → Type 0
IsActive ended = ⊥
IsActive other = Unit {0}

-- one that is so after a call was so before it
active-before : (call : Call) (result : CallResult (Answer call)) (before : Life) →
    IsActive (life_step call result before) → IsActive before
active-before call result ended active = active
active-before call result before active = tt

-- a call that failed, and wasn't the answer
abbrev HasFailedAs : (call : Call) → CallResult (Answer call) → Type 0
HasFailedAs call result =
    (effect : Effect) × (result ≡ failed effect) × ((status : ℕ) → call ≢ answers status)

-- of one that has begun a call was answered or failed, and it runs still
called-as : (call : Call) (result : CallResult (Answer call)) (lived : Life) →
    IsActive (life_after_call call result lived) →
    ((answer : Answer call) × (result ≡ done answer)) ⊎ HasFailedAs call result
called-as (answers status) result lived active = absurd active
called-as call (done answer) lived active = inl (answer, refl)
called-as call (died effect) lived active = absurd active
called-as call (failed effect) lived active = inr (effect, refl, λ status is. cc is)

-- the session runs, or the last of its events is its answer
abbrev pub HasCome : Token → History → Type 0
HasCome token history = (runs_in (life token history) ≡ true)
    ⊎ ((status : ℕ) × (before : History) × (own_events token history
    ≡ record { token = token; call = answers status; result = done tt } ∷ before))

module _ (deeds : SuiteDeeds) (first : Folder) (token : Token) (entry : Folder) where
  -- how it stands with the staging names after a history
  abbrev Holds : Folder → Standing → Type 0
  Holds now stood = StagingAlone entry now stood.staged stood.own

  -- after a call of the session
  abbrev HoldsAfter : History → (call : Call) → CallResult (Answer call) → Type 0
  HoldsAfter history call result =
      Holds (changed_by token call (effect_of call result) (after first history))
      (standing_step call result (standing token history))

  module _ (history : History) (held : Holds (after first history) (standing token history)) where
    -- one that was done
    done-call : (call : Call) (result : CallResult (Answer call)) (answer : Answer call) →
        result ≡ done answer → KeepsRulesOrNone deeds history token call result →
        GivesResult (after first history) history token call result →
        HoldsAfter history call result
    done-call call result answer is keeps gives =
        subst (HoldsAfter history call) (sym is)
        (done-step deeds token entry (after first history) (standing token history) held history
        call answer
        (event-permitted deeds history token call result keeps)
        (subst (GivesResult (after first history) history token call) is gives))

    -- the first one is the begin
    first-call : (call : Call) (result : CallResult (Answer call)) →
        life token history ≡ unbegun → KeepsRulesOrNone deeds history token call result →
        HoldsAfter history call result
    first-call (begins command) result lived keeps = begin-step deeds token entry
        (after first history) (standing token history) held command result
    first-call call result lived keeps =
        absurd (subst (λ (one : Life). MayCall one call) lived keeps.life_rule)

    -- each one, where none failed
    any-call : (call : Call) (result : CallResult (Answer call)) (lived : Life) →
        life token history ≡ lived → KeepsRulesOrNone deeds history token call result →
        GivesResult (after first history) history token call result →
        IsActive (life_step call result lived) → (HasFailedAs call result → ⊥) →
        HoldsAfter history call result
    any-call call result unbegun is keeps gives active unfailed =
        first-call call result is keeps
    any-call call result running is keeps gives active unfailed =
        elim (called-as call result running active) [
          | inl answered ↦ done-call call result answered.0 answered.1 keeps gives
          | inr fails ↦ absurd (unfailed fails)
        ]
    any-call call result faulted is keeps gives active unfailed =
        elim (called-as call result faulted active) [
          | inl answered ↦ done-call call result answered.0 answered.1 keeps gives
          | inr fails ↦ absurd (unfailed fails)
        ]
    any-call call result ended is keeps gives active unfailed = absurd active

    -- so it is after the event of that call
    event-holds : (event : Event) → event.token ≡ token →
        HoldsAfter history event.call event.result →
        Holds (after first (event ∷ history)) (standing token (event ∷ history))
    event-holds event same holds =
        rw ((bytes_eq-Decides event.token token).1 same)
        (subst (λ (one : Token). Holds (changed_by one event.call
        (effect_of event.call event.result) (after first history))
        (standing_step event.call event.result (standing token history))) (sym same) holds)

  -- what the rules and the folder say of an event they say by the session's token
  module _ (event : Event) (history : History) (same : event.token ≡ token)
      (next : IsNext deeds first history event) where
    own-keeps : KeepsRulesOrNone deeds history token event.call event.result
    own-keeps = subst (λ (one : Token).
        KeepsRulesOrNone deeds history one event.call event.result) same next.keeps

    own-gives : GivesResult (after first history) history token event.call event.result
    own-gives = subst (λ (one : Token).
        GivesResult (after first history) history one event.call event.result) same next.gives

  -- a call that failed failed in a longer history too
  fails-later : (event : Event) (history : History) → HasFailed token history →
      HasFailed token (event ∷ history)
  fails-later event history fails = record {
    newer = event ∷ fails.newer;
    older = fails.older;
    call = fails.call;
    no_answer = fails.no_answer;
    effect = fails.effect;
    parts = ap (λ (one : History). event ∷ one) fails.parts;
  }

  -- and the last one has
  fails-last : (event : Event) (history : History) → event.token ≡ token →
      HasFailedAs event.call event.result → HasFailed token (event ∷ history)
  fails-last event history same fails =
      let own : Event = record {
        token = token;
        call = event.call;
        result = failed fails.0;
      } in
      let is : event ≡ own = λ i. record {
        token = same i;
        call = event.call;
        result = fails.1 i;
      } in
      record {
        newer = [];
        older = history;
        call = event.call;
        no_answer = fails.2;
        effect = fails.0;
        parts = ap (λ (one : Event). one ∷ history) is;
      }

  module _ (old : History)
      (begun : Holds (after first old) (standing token old)) where
    -- event by event
    steps : (newer : History) → AllByRecursion (λ event. event.token ≡ token) newer →
        Lawful deeds first (newer ++ old) → (HasFailed token (newer ++ old) → ⊥) →
        IsActive (life token (newer ++ old)) →
        Holds (after first (newer ++ old)) (standing token (newer ++ old))
    steps [] own lawful unfailed active = begun
    steps (event ∷ newer) own (goes_on _ _ lawful next) unfailed active =
        let went : IsActive (life_step event.call event.result (life token (newer ++ old))) =
        rw ((bytes_eq-Decides event.token token).1 own.0) at active in
        let earlier = steps newer own.1 lawful
        (λ fails. unfailed (fails-later event (newer ++ old) fails))
        (active-before event.call event.result (life token (newer ++ old)) went) in
        event-holds (newer ++ old) earlier event own.0
        (any-call (newer ++ old) earlier event.call event.result (life token (newer ++ old)) refl
        (own-keeps event (newer ++ old) own.0 next) (own-gives event (newer ++ old) own.0 next)
        went (λ fails. unfailed (fails-last event (newer ++ old) own.0 fails)))

-- one that runs is so
runs-active : (lived : Life) → runs_in lived ≡ true → IsActive lived
runs-active ended runs = cc runs
runs-active lived runs = tt

-- so is one that may answer
answers-active : (lived : Life) (status : ℕ) → MayCall lived (answers status) → IsActive lived
answers-active ended status may = absurd may
answers-active lived status may = tt

module _ (deeds : SuiteDeeds) (first : Folder) (token : Token) (old history : History)
    (alone : IsAlone token old history) (lawful : Lawful deeds first history) where
  -- at the earlier moment it had staged nothing
  entry-holds : Holds deeds first token (after first old) (after first old) (standing token old)
  entry-holds = subst (λ (stood : Standing). StagingAlone (after first old) (after first old)
      stood.staged stood.own) (sym (no-events token old alone.fresh)) (λ name staging. refl)

  -- by its answer, behind which nothing came
  answer-holds : (status : ℕ) (before newer : History) →
      AllByRecursion (λ event. event.token ≡ token) newer → Lawful deeds first (newer ++ old) →
      (HasFailed token (newer ++ old) → ⊥) → own_events token (newer ++ old)
      ≡ record { token = token; call = answers status; result = done tt } ∷ before →
      Holds deeds first token (after first old) (after first (newer ++ old))
      (standing token (newer ++ old))
  answer-holds status before [] own lawful_now unfailed is =
      let answer : Event = record { token = token; call = answers status; result = done tt } in
      let none : answer ∷ before ≡ [] = sym is ∙ alone.fresh in
      absurd (cc none)
  answer-holds status before (event ∷ newer) own (goes_on _ _ lawful_then next) unfailed is =
      let past = newer ++ old in
      let answer : Event = record { token = token; call = answers status; result = done tt } in
      let here : event ∷ own_events token past ≡ answer ∷ before =
      rw ((bytes_eq-Decides event.token token).1 own.0) at is in
      let last : event ≡ answer = cc here in
      let keeps : KeepsRulesOrNone deeds past token (answers status) (done tt) =
      subst (λ (one : Event). KeepsRulesOrNone deeds past one.token one.call one.result) last
      next.keeps in
      let earlier = steps deeds first token (after first old) old entry-holds newer own.1
      lawful_then
      (λ fails. unfailed (fails-later deeds first token (after first old) event past fails))
      (answers-active (life token past) status keeps.life_rule) in
      subst (λ (one : Event). Holds deeds first token (after first old)
      (after first (one ∷ past)) (standing token (one ∷ past))) (sym last)
      (event-holds deeds first token (after first old) past earlier answer refl
      (done-call deeds first token (after first old) past earlier (answers status) (done tt) tt
      refl keeps tt))

  -- so it is at its end
  come-holds : (HasFailed token history → ⊥) → HasCome token history →
      Holds deeds first token (after first old) (after first history) (standing token history)
  come-holds unfailed come =
      subst (λ (one : History). Holds deeds first token (after first old) (after first one)
      (standing token one)) (sym alone.parts)
      (by-end (subst (λ (one : History). HasCome token one) alone.parts come))
    where
      there : Lawful deeds first (alone.newer ++ old)
      there = subst (Lawful deeds first) alone.parts lawful

      none : HasFailed token (alone.newer ++ old) → ⊥
      none fails =
          unfailed (subst (λ (one : History). HasFailed token one) (sym alone.parts) fails)

      by-end : HasCome token (alone.newer ++ old) →
          Holds deeds first token (after first old) (after first (alone.newer ++ old))
          (standing token (alone.newer ++ old))
      by-end (inl runs) = steps deeds first token (after first old) old entry-holds alone.newer
          alone.own there none (runs-active (life token (alone.newer ++ old)) runs)
      by-end (inr answered) =
          answer-holds answered.0 answered.1 alone.newer alone.own there none answered.2

  -- the claim
  pub alone-staging : (HasFailed token history → ⊥) → HasCome token history →
      HasMovedAll (standing token history) → IsUnstaged (after first old) (after first history)
  alone-staging unfailed come moved name staging =
      by-own (standing token history).own (come-holds unfailed come)
    where
      by-own : (own : OwnLock) → StagingAlone (after first old) (after first history)
          (standing token history).staged own →
          IsGoneOrAs (after first old) (after first history) name
      by-own (lock_kept number) held = held name staging (moved name)
      by-own (lock_freed number) held = held name staging (moved name)
      by-own own held = inr (held name staging)
