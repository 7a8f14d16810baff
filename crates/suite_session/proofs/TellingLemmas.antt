-- Claims: a session that drops nothing drops nothing after events of others (`tells-others`), and after
-- a call of its own where the next state is to tell what its answer shows (`tells-own`).
-- Way: what a history shows of what was met its last event shows, or it was met before (`met-last`).
use Rattle.std.proofs.Common.{◌≡◌, ◌≢◌, ◌⊎◌, refl, sym, ap, subst, ◌∙◌, true, ℕ, List, [], ◌∷◌, ◌++◌, inl, inr}
use Rattle.std.proofs.lemmas.List.Elements.{filter-append}
use Rattle.std.proofs.lemmas.Slice.Eq.{bytes_eq-Decides}
use Rattle.acct_text.specs.Bytes.{Bytes}
use Rattle.acct_outside.specs.declared.Name.TheVariants.{Intent, Lock}
use Rattle.acct_outside.specs.declared.Created.TheVariants.{Exists}
use Rattle.acct_outside.specs.declared.Verdict.TheVariants.{Alive}
use Rattle.acct_outside.specs.declared.CommitStage.{CommitStage}
use Rattle.acct_outside.specs.Names.{greatest_lock}
use Rattle.acct_outside.specs.Tokens.{Token}
use Rattle.acct_outside.specs.Folder.{greatest}
use Rattle.acct_outside.specs.Calls.{Call, Answer, CallResult, Found, lists, reads, asks, creates, done, failed, found_absent, found_bytes, found_too_large}
use Rattle.acct_outside.specs.History.{Event, History, is_of, own_events}
use Rattle.acct_outside.specs.Others.{Admission, ByOthers, none_came, one_came}
use Rattle.acct_outside.specs.Contract.{NeverAdmits}
use Rattle.intent_file.specs.Parts.{FirstFault}
use Rattle.suite_rules.specs.OwnLock.{lock_uncalled, lock_made}
use Rattle.suite_rules.specs.Standing.{Standing, standing}
use Rattle.suite_answers.specs.declared.cause.Which.TheVariants.{File}
use Rattle.suite_answers.specs.declared.cause.Cause.{Cause}
use Rattle.suite_answers.specs.declared.cause.Cause.TheVariants.{Held, Gone, Raced, Outrun, LockDamaged, Exhausted, IntentDamaged, TooLarge, DiskFault}
use Rattle.lock_steps.specs.Stands.{HasListed}
use Rattle.suite_session.specs.Causes.{Met, MetIntent, HasKept, HasFailed, HasListedNone, HasWatched, ComesOfCall, IsNoLockText, MustTell}
use Rattle.suite_session.specs.Telling.{MayFollow, TellsMet}
use Rattle.suite_session.proofs.GrowsLemmas.{second-empty}

-- it has judged the greatest lock, which has this number
abbrev pub HasJudgedAt : ℕ → Standing → Type 0
HasJudgedAt number = HasListed lock_uncalled number (λ listing. listing.is_judged ≡ true)

-- what a call's answer shows that the session met, by how it stood when it made the call
abbrev pub Shows : (call : Call) → Answer call → Standing → Cause → Type 0
Shows lists numbers stood Exhausted = (greatest numbers ≡ greatest_lock) × HasListedNone stood
Shows lists numbers stood (Outrun number other) = (greatest numbers ≡ other) × (other ≢ number)
    × ((stood.own ≡ lock_made number) ⊎ HasJudgedAt number stood)
Shows lists numbers stood (IntentDamaged part) = (bytes : Bytes) × FirstFault bytes part
    × HasWatched (greatest numbers) Intent (found_bytes bytes) stood
Shows lists numbers stood (TooLarge (File Intent)) =
    HasWatched (greatest numbers) Intent found_too_large stood
Shows (reads (Lock number)) found stood (Gone gone) = (number ≡ gone) × (found ≡ found_absent)
Shows (reads (Lock number)) found stood (LockDamaged damaged) =
    (number ≡ damaged) × IsNoLockText found
Shows (reads Intent) found stood (IntentDamaged part) =
    (bytes : Bytes) × (found ≡ found_bytes bytes) × FirstFault bytes part × HasKept stood
Shows (reads Intent) found stood (TooLarge (File Intent)) =
    (found ≡ found_too_large) × HasKept stood
Shows (asks holder) verdict stood (Held held) = (holder ≡ held) × (verdict ≡ Alive)
Shows (creates number) created stood (Raced raced) = (number ≡ raced) × (created ≡ Exists)
Shows call answer stood met = ⊥

-- so does how it came to its end: a call that failed shows that
abbrev pub ShowsResult : (call : Call) → CallResult (Answer call) → Standing → Cause → Type 0
ShowsResult call (done answer) stood met = Shows call answer stood met
ShowsResult call (failed effect) stood (DiskFault stage) = Unit {0}
ShowsResult call result stood met = ⊥

-- what an event shows, after a history
abbrev ShowsThen : Token → History → Event → Cause → Type 0
ShowsThen token history event met =
    ShowsResult event.call event.result (standing token history) met

module _ (token : Token) (history : History) (event : Event) where
  -- the event is the session's and shows the cause
  abbrev ShowsLast : Cause → Type 0
  ShowsLast met = (event.token ≡ token) × ShowsThen token history event met

  -- what was met at a call that was done
  met-then : (call : Call) (answer : Answer call) (Stood : Standing → Type 0) (met : Cause) →
      (Stood (standing token history) → Shows call answer (standing token history) met) →
      Met token call answer Stood (event ∷ history) →
      Met token call answer Stood history ⊎ ShowsLast met
  met-then call answer Stood met shows was = cases was.newer was.older was.parts was.stood
    where
      own : Event
      own = record { token = token; call = call; result = done answer }

      cases : (newer older : History) → event ∷ history ≡ newer ++ own ∷ older →
          Stood (standing token older) → Met token call answer Stood history ⊎ ShowsLast met
      cases [] older parts stood =
          let same : event ≡ own = cc parts in
          let rest : older ≡ history = cc parts in
          inr (
            ap (λ (one : Event). one.token) same,
            subst (λ (one : Event). ShowsThen token history one met) (sym same)
                (shows (subst (λ (one : History). Stood (standing token one)) rest stood)),
          )
      cases (first ∷ newer) older parts stood =
          let rest : history ≡ newer ++ own ∷ older = cc parts in
          inl (record { newer = newer; older = older; parts = rest; stood = stood })

  -- what was found at the intent
  intent-then : (found : Found) (met : Cause) →
      ((stood : Standing) → HasKept stood → Shows (reads Intent) found stood met) →
      ((numbers : List ℕ) (stood : Standing) → HasWatched (greatest numbers) Intent found stood →
      Shows lists numbers stood met) →
      MetIntent token found (event ∷ history) → MetIntent token found history ⊎ ShowsLast met
  intent-then found met reads_it confirms (inl was) =
      elim (met-then (reads Intent) found _ met (reads_it (standing token history)) was) [
        | inl before ↦ inl (inl before)
        | inr shows ↦ inr shows
      ]
  intent-then found met reads_it confirms (inr was) =
      elim (met-then lists was.0 _ met (confirms was.0 (standing token history)) was.1) [
        | inl before ↦ inl (inr (was.0, before))
        | inr shows ↦ inr shows
      ]

  -- or at one that failed
  failed-then : (stage : CommitStage) → HasFailed token (event ∷ history) →
      HasFailed token history ⊎ ShowsLast (DiskFault stage)
  failed-then stage was = cases was.newer was.older was.parts
    where
      own : Event
      own = record { token = token; call = was.call; result = failed was.effect }

      cases : (newer older : History) → event ∷ history ≡ newer ++ own ∷ older →
          HasFailed token history ⊎ ShowsLast (DiskFault stage)
      cases [] older parts =
          let same : event ≡ own = cc parts in
          inr (
            ap (λ (one : Event). one.token) same,
            subst (λ (one : Event). ShowsThen token history one (DiskFault stage)) (sym same) tt,
          )
      cases (first ∷ newer) older parts =
          let rest : history ≡ newer ++ own ∷ older = cc parts in
          inl (record {
            newer = newer;
            older = older;
            call = was.call;
            no_answer = was.no_answer;
            effect = was.effect;
            parts = rest;
          })

  -- what the longer history shows its last event shows, or the history before it
  pub met-last : (met : Cause) → ComesOfCall met → MustTell token (event ∷ history) met →
      MustTell token history met ⊎ ShowsLast met
  met-last (Held holder) comes was =
      met-then (asks holder) Alive _ (Held holder) (λ stood. (refl, refl)) was
  met-last (Gone number) comes was =
      met-then (reads (Lock number)) found_absent _ (Gone number) (λ stood. (refl, refl)) was
  met-last (Raced number) comes was =
      met-then (creates number) Exists _ (Raced number) (λ stood. (refl, refl)) was
  met-last (LockDamaged number) comes was =
      elim (met-then (reads (Lock number)) was.0 _ (LockDamaged number) (λ stood. (refl, was.1))
      was.2) [
        | inl before ↦ inl (was.0, was.1, before)
        | inr shows ↦ inr shows
      ]
  met-last (Outrun number other) comes (inl was) =
      elim (met-then lists was.0 _ (Outrun number other) (λ stood. (was.1, was.2, inl stood))
      was.3) [
        | inl before ↦ inl (inl (was.0, was.1, was.2, before))
        | inr shows ↦ inr shows
      ]
  met-last (Outrun number other) comes (inr was) =
      elim (met-then lists was.0 _ (Outrun number other) (λ stood. (was.1, was.2, inr stood))
      was.3) [
        | inl before ↦ inl (inr (was.0, was.1, was.2, before))
        | inr shows ↦ inr shows
      ]
  met-last Exhausted comes was =
      elim (met-then lists was.0 _ Exhausted (λ stood. (was.1, stood)) was.2) [
        | inl before ↦ inl (was.0, was.1, before)
        | inr shows ↦ inr shows
      ]
  met-last (IntentDamaged part) comes was =
      elim (intent-then (found_bytes was.0) (IntentDamaged part)
      (λ stood kept. (was.0, refl, was.1, kept))
      (λ numbers stood watched. (was.0, was.1, watched)) was.2) [
        | inl before ↦ inl (was.0, was.1, before)
        | inr shows ↦ inr shows
      ]
  met-last (TooLarge (File Intent)) comes was =
      intent-then found_too_large (TooLarge (File Intent)) (λ stood kept. (refl, kept))
      (λ numbers stood watched. watched) was
  met-last (DiskFault stage) comes was = failed-then stage was
  met-last met comes was = absurd comes

-- a session that was to tell what it met drops nothing where it is to tell more
pub tells-more : (Told More : Cause → Type 0) (token : Token) →
    ((met : Cause) → Told met → More met) → (history : History) → TellsMet Told token history →
    TellsMet More token history
tells-more Told More token more history tells newer older parts met comes was =
    let told = tells newer older parts met comes was in
    (more met told.0, told.1)

module _ (Told : Cause → Type 0) (token : Token) where
  -- an event of another session leaves it so
  tells-other : (event : Event) (history : History) → (event.token ≡ token → ⊥) →
      TellsMet Told token history → TellsMet Told token (event ∷ history)
  tells-other event history other tells [] older parts met comes was =
      elim (met-last token history event met comes
      (subst (λ (one : History). MustTell token one met) (sym parts) was)) [
        | inl before ↦ ((tells [] history refl met comes before).0, tt)
        | inr shows ↦ absurd (other shows.0)
      ]
  tells-other event history other tells (first ∷ newer) older parts met comes was =
      let rest : history ≡ newer ++ older = cc parts in
      let same : first ≡ event = cc parts in
      let told = tells newer older rest met comes was in (
        told.0,
        (λ own. absurd (other (ap (λ (one : Event). one.token) (sym same) ∙ own)), told.1),
      )

  -- so do those that the folder admits
  pub tells-others : (admits : Admission) → NeverAdmits admits token → (old new : History) →
      ByOthers admits old new → TellsMet Told token old → TellsMet Told token new
  tells-others admits never old _ none_came tells = tells
  tells-others admits never old _ (one_came event new came admitted) tells =
      tells-other event new (never new event admitted)
      (tells-others admits never old new came tells)

  -- after an event of its own it is to tell what that shows, and still what it was to tell
  pub tells-own : (Next : Cause → Type 0) (event : Event) (history : History) →
      ((met : Cause) → Told met → Next met × MayFollow met event.call) →
      ((met : Cause) → ShowsThen token history event met → Next met) →
      TellsMet Told token history → TellsMet Next token (event ∷ history)
  tells-own Next event history leads shows tells [] older parts met comes was =
      elim (met-last token history event met comes
      (subst (λ (one : History). MustTell token one met) (sym parts) was)) [
        | inl before ↦ ((leads met (tells [] history refl met comes before).0).0, tt)
        | inr last ↦ (shows met last.1, tt)
      ]
  tells-own Next event history leads shows tells (first ∷ newer) older parts met comes was =
      let rest : history ≡ newer ++ older = cc parts in
      let same : event ≡ first = cc parts in
      let told = tells newer older rest met comes was in
      let next = leads met told.0 in (
        next.0,
        (λ own. subst (λ (one : Event). MayFollow met one.call) same next.1, told.1),
      )

-- ---- A session that has met nothing

-- an event of the session is one of its own
own-there : (token : Token) (history newer older : History) (event : Event) → event.token ≡ token →
    history ≡ newer ++ event ∷ older → own_events token history ≡ [] → ⊥
own-there token history newer older event own parts none =
    let there : own_events token (event ∷ older) ≡ event ∷ own_events token older =
    rw ((bytes_eq-Decides event.token token).1 own) refl in
    let empty : own_events token (event ∷ older) ≡ [] =
    second-empty (own_events token newer) (own_events token (event ∷ older))
    (sym (filter-append (is_of token) newer (event ∷ older))
    ∙ (ap (λ (one : History). own_events token one) (sym parts) ∙ none)) in
    absurd (cc (sym there ∙ empty))

-- who made no call has met nothing
met-there : (token : Token) (history : History) (call : Call) (answer : Answer call)
    (Stood : Standing → Type 0) → own_events token history ≡ [] →
    Met token call answer Stood history → ⊥
met-there token history call answer Stood none met =
    own-there token history met.newer met.older _ refl met.parts none

-- and has met no intent
intent-there : (token : Token) (history : History) (found : Found) →
    own_events token history ≡ [] → MetIntent token found history → ⊥
intent-there token history found none (inl met) = met-there token history _ _ _ none met
intent-there token history found none (inr met) = met-there token history _ _ _ none met.1

-- without one it has met nothing
met-none : (token : Token) (history : History) → own_events token history ≡ [] → (met : Cause) →
    ComesOfCall met → MustTell token history met → ⊥
met-none token history none (Held holder) comes was = met-there token history _ _ _ none was
met-none token history none (Gone number) comes was = met-there token history _ _ _ none was
met-none token history none (Raced number) comes was = met-there token history _ _ _ none was
met-none token history none (Outrun number other) comes (inl was) =
    met-there token history _ _ _ none was.3
met-none token history none (Outrun number other) comes (inr was) =
    met-there token history _ _ _ none was.3
met-none token history none (LockDamaged number) comes was =
    met-there token history _ _ _ none was.2
met-none token history none Exhausted comes was = met-there token history _ _ _ none was.2
met-none token history none (IntentDamaged part) comes was =
    intent-there token history (found_bytes was.0) none was.2
met-none token history none (TooLarge (File Intent)) comes was =
    intent-there token history found_too_large none was
met-none token history none (DiskFault stage) comes was =
    own-there token history was.newer was.older _ refl was.parts none
met-none token history none met comes was = absurd comes

-- so it has nothing to tell
pub tells-nothing : (token : Token) (history : History) → own_events token history ≡ [] →
    TellsMet (λ met. ⊥) token history
tells-nothing token history none newer older parts met comes was =
    absurd (met-none token older
    (second-empty (own_events token newer) (own_events token older)
    (sym (filter-append (is_of token) newer older)
    ∙ (ap (λ (one : History). own_events token one) (sym parts) ∙ none)))
    met comes was)
