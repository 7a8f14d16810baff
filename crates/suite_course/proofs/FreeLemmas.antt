-- Claim: a report changes no name, and where its second listing showed another greatest lock its answer
-- tells just that, or that there was no memory (`reports-freely`).
-- Way: it drops nothing that it has met, so it tells that or what came later. No call of it failed: after
-- one that does comes the answer alone, and after that listing no call that changes no name but that.
use Rattle.std.proofs.Common.{◌≡◌, ◌≢◌, ◌⊎◌, refl, sym, ap, subst, ◌∙◌, ◌∷◌, ◌++◌, [], ℕ, Bool, true, false, inl, inr, true≢false}
use Rattle.std.specs.List.{AllByRecursion}
use Rattle.std.proofs.lemmas.List.{append_assoc}
use Rattle.acct_outside.specs.declared.Name.TheVariants.{FreeStage, Lock}
use Rattle.acct_outside.specs.declared.CommitStage.{CommitStage}
use Rattle.acct_outside.specs.Tokens.{Token}
use Rattle.acct_outside.specs.Calls.{Call, CallResult, answers, lists, writes, renames, removes, done, failed}
use Rattle.acct_outside.specs.History.{Event, History}
use Rattle.lock_steps.specs.Stands.{HasJudged}
use Rattle.suite_answers.specs.declared.cause.Cause.{Cause}
use Rattle.suite_answers.specs.declared.cause.Cause.TheVariants.{Outrun, DiskFault, OutputFault, Memory}
use Rattle.suite_answers.specs.declared.answer.Answer.{Answer}
use Rattle.suite_session.specs.Answers.{Says}
use Rattle.suite_session.specs.Causes.{Met, HasFailed, MetChange, lister}
use Rattle.suite_session.specs.Due.{IsShown}
use Rattle.suite_session.specs.Reports.{ChangesNothing, IsFreeCall, RunsFree}
use Rattle.suite_session.specs.Runner.{Runner}
use Rattle.suite_session.specs.Stands.{IsMemory}
use Rattle.suite_session.specs.Telling.{DropsNothing, IsLater, IsLeavingCall, MayFollow}
use Rattle.suite_course.specs.Shows.{ReportsFreely}
use Rattle.suite_course.proofs.AloneLemmas.{all-rest, suffixes}
use Rattle.suite_course.proofs.ReportLemmas.{free-event}

-- a call that leaves, and changes no name, is the answer
leaves-free : (call : Call) → ((status : ℕ) → call ≢ answers status) → IsLeavingCall call →
    IsFreeCall call → ⊥
leaves-free (answers status) other leaves free = other status refl
leaves-free (removes (Lock number)) other leaves free = free
leaves-free (writes FreeStage bytes) other leaves free = free
leaves-free (renames FreeStage (Lock number)) other leaves free = free
leaves-free call other leaves free = leaves

-- what holds of all later events holds of one among them
among : (P : Event → Type 0) (later : History) (event : Event) (rest newer : History) →
    newer ≡ later ++ event ∷ rest → AllByRecursion P newer → P event
among P later event rest newer is all =
    (all-rest P later (event ∷ rest) (subst (AllByRecursion P) is all)).0

-- the call was answered
abbrev is_done : {A : Type 0} → CallResult A → Bool
is_done (done answer) = true
is_done result = false

module _ (token : Token) (cause : Cause) (history : History) (runs : RunsFree token history)
    (drops : DropsNothing token cause history) where
  -- once another lock was listed as the greatest no call failed, and none had
  none-failed : (stage : CommitStage) (number other : ℕ) → HasFailed token history →
      MetChange token number other history → ⊥
  none-failed stage number other fails change =
      elim (suffixes fails.newer (fault ∷ fails.older) met.newer (listing ∷ met.older)
      (sym fails.parts ∙ met.parts)) [
        | inl later ↦ listed-after later.0 later.1 later.2
        | inr earlier ↦ failed-after earlier.0 earlier.1
      ]
    where
      met : Met token lists change.0 (HasJudged (lister token number)) history
      met = change.3

      fault : Event
      fault = record { token = token; call = fails.call; result = failed fails.effect }

      listing : Event
      listing = record { token = token; call = lists; result = done change.0 }

      -- the listing came behind the call that failed
      listed-after : (between : History) → listing ∷ met.older ≡ between ++ fault ∷ fails.older →
          fails.newer ≡ met.newer ++ between → ⊥
      listed-after [] is newer =
          let same : listing ≡ fault = cc is in
          true≢false (ap (λ (one : Event). is_done one.result) same)
      listed-after (head ∷ between) is newer =
          let same : listing ≡ head = cc is in
          among (λ event. event.token ≡ token → MayFollow (DiskFault stage) event.call) met.newer
          listing between fails.newer
          (newer ∙ ap (λ (one : Event). met.newer ++ one ∷ between) (sym same))
          (drops fails.newer (fault ∷ fails.older) fails.parts (DiskFault stage) tt (record {
            newer = [];
            older = fails.older;
            call = fails.call;
            no_answer = fails.no_answer;
            effect = fails.effect;
            parts = refl;
          })).1 refl

      -- the call that failed came behind the listing
      failed-after : (between : History) → fault ∷ fails.older ≡ between ++ listing ∷ met.older → ⊥
      failed-after [] is =
          let same : fault ≡ listing = cc is in
          true≢false (sym (ap (λ (one : Event). is_done one.result) same))
      failed-after (head ∷ between) is =
          let same : fault ≡ head = cc is in
          let rest : fails.older ≡ between ++ listing ∷ met.older = cc is in
          let parts : history ≡ (fails.newer ++ fault ∷ between) ++ listing ∷ met.older =
          fails.parts ∙ (ap (λ (one : History). fails.newer ++ fault ∷ one) rest
          ∙ sym (append_assoc fails.newer (fault ∷ between) (listing ∷ met.older))) in
          leaves-free fails.call fails.no_answer
          (among (λ event. event.token ≡ token → MayFollow (Outrun number other) event.call)
          fails.newer fault between (fails.newer ++ fault ∷ between) refl
          (drops (fails.newer ++ fault ∷ between) (listing ∷ met.older) parts (Outrun number other)
          tt (inr (
            change.0,
            change.1,
            change.2,
            record {
              newer = [];
              older = met.older;
              parts = refl;
              stood = met.stood;
            },
          ))).1 refl)
          (free-event token fault fails.newer fails.older refl
          (subst (λ (one : History). ChangesNothing token one) fails.parts runs.free))

-- the claim
pub reports-freely : (runner : Runner) (answer : Answer) (history : History) →
    RunsFree runner.token history → Says runner.asked answer answer.outcome.cause →
    IsShown runner answer history answer.outcome.cause →
    DropsNothing runner.token answer.outcome.cause history →
    ReportsFreely runner.token answer.outcome.cause history
reports-freely runner answer history runs says shown drops = record {
  runs = runs;
  outrun = λ number other change. tells number other change answer.outcome.cause says shown drops
      (drops [] history refl (Outrun number other) tt (inr change)).0;
}
  where
    tells : (number other : ℕ) → MetChange runner.token number other history → (cause : Cause) →
        Says runner.asked answer cause → IsShown runner answer history cause →
        DropsNothing runner.token cause history → (cause ≡ Outrun number other) ⊎ IsLater cause →
        (cause ≡ Outrun number other) ⊎ IsMemory cause
    tells number other change cause says shown drops (inl is) = inl is
    tells number other change (Memory stage) says shown drops (inr later) = inr tt
    tells number other change (OutputFault stage) says shown drops (inr later) = absurd says
    tells number other change (DiskFault stage) says shown drops (inr later) =
        absurd (none-failed runner.token (DiskFault stage) history runs drops stage number other
        shown change)
    tells number other change cause says shown drops (inr later) = absurd later
