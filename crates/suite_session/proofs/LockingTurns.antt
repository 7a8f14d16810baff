-- Claim: after the read of the greatest lock, and after the second listing, the session stands in
-- the state that these lead to (`read-stands`, `confirm-stands`); and a step that ends the way to the lock
-- leads to its answer (`lock-ends`).
use Rattle.std.proofs.Common.{◌≡◌, ◌≢◌, refl, sym, ap, subst, ◌∙◌, ◌==◌, ℕ, Bool, true, false, if◌then◌else◌, IfSome, Result, Ok, Err, rules, arith}
use Rattle.acct_outside.specs.Names.{greatest_lock}
use Rattle.acct_outside.specs.Tokens.{Token}
use Rattle.acct_outside.specs.declared.Name.TheVariants.{Lock}
use Rattle.acct_outside.specs.Calls.{Answer, CallResult, lists, reads}
use Rattle.acct_outside.specs.declared.FolderFault.{FolderFault}
use Rattle.suite_rules.specs.Standing.{Standing, standing_step}
use Rattle.suite_rules.specs.Steps.{StandsIn, MakesCall, TakesStep, own_command}
use Rattle.suite_rules.proofs.StepLemmas.{stands-weaker}
use Rattle.lock_steps.specs.States.{Lister, Maker}
use Rattle.lock_steps.specs.declared.LockEnd.{LockEnd}
use Rattle.lock_steps.specs.declared.judging.Told.{Told}
use Rattle.lock_steps.specs.declared.judging.Told.TheVariants.{Judged, Ask}
use Rattle.lock_steps.specs.declared.claiming.Confirmed.{Confirmed}
use Rattle.lock_steps.specs.declared.claiming.Confirmed.TheVariants.{Keeper, Loser}
use Rattle.lock_steps.specs.Outcomes.{Looks, Reads, Confirms, folder_failed}
use Rattle.lock_steps.specs.Stands.{HasLooked, HasReadHeld, HasJudged, HasMade, WasOvertaken, Keeps, KnowsAnything, StandsTold, StandsConfirmed}
use Rattle.account_model.specs.Request.{Request, is_report}
use Rattle.suite_answers.specs.declared.cause.Cause.{Cause}
use Rattle.suite_session.specs.Causes.{HasListedNone, Met}
use Rattle.suite_session.specs.declared.state.State.{State}
use Rattle.suite_session.specs.declared.state.State.TheVariants.{Claiming, Reading, Watching}
use Rattle.suite_session.specs.Runner.{Runner}
use Rattle.acct_outside.specs.Moment.{Moment}
use Rattle.acct_outside.specs.declared.CommitStage.TheVariants.{Before}
use Rattle.suite_session.specs.Moment.{At, Runs}
use Rattle.suite_session.specs.Locking.{after_judging, after_look, after_read, after_listing, cause_of_end, cause_of_fault}
use Rattle.suite_session.specs.NextCall.{state_call}
use Rattle.suite_session.specs.Stands.{AnswersWith, IsStopped, StagesTo, StandsAs, TellsOutside, Turns}
use Rattle.suite_session.specs.Telling.{IsToTell, MayFollow}
use Rattle.lock_steps.proofs.StandsLemmas.{none-judged}
use Rattle.suite_session.proofs.TurnLemmas.{HasMetNow, ends, goes-on}
use Rattle.suite_session.proofs.LeavingLemmas.{LeavesUnkept}
use Rattle.suite_session.proofs.MeetingLemmas.{MeetsBy}
use Rattle.suite_session.proofs.WritingLemmas.{IsTurnCall}
use Rattle.suite_session.proofs.LockingLemmas.{end-failed, end-plain, end-stage, looks-last, looks-token, reads-number, reads-judged, reads-asking, confirms-keeper, confirms-less, confirms-loser}

module _ (before now : Moment) (runner : Runner) where
  -- once the greatest lock is judged a report watches, and another command makes a lock
  judged-by : (judged : Lister) (report : Bool) → is_report runner.asked.request ≡ report →
      judged.token ≡ runner.token → At now runner Before (HasJudged judged) →
      StandsAs now runner (if report then Watching judged else Claiming judged)
  judged-by judged true is same stands = (same, stands, is)
  judged-by judged false is same stands = (same, stands, is)

  pub judged-stands : (judged : Lister) → judged.token ≡ runner.token →
      At now runner Before (HasJudged judged) →
      StandsAs now runner (after_judging runner.asked.request judged)
  judged-stands judged = judged-by judged _ refl

  module _ (looking : Token) (stands : At before runner Before HasListedNone)
      (same : looking ≡ runner.token) where
    -- after the first listing, by whether there is a lock
    looked : (seen : Lister) (is_none : Bool) → (seen.greatest == 0) ≡ is_none →
        MakesCall before now looking lists
        (λ answer. Looks looking answer (Ok seen)) →
        StandsIn now looking (HasLooked seen) →
        StandsAs now runner
        (if is_none then after_judging runner.asked.request seen else Reading seen)
    looked seen true is made next = judged-stands seen
        (looks-token _ _ _ made.shown ∙ same)
        (goes-on before now runner Before HasListedNone stands looking same
        lists tt _ (λ result stood. refl) made (HasJudged seen)
        (stands-weaker now.admits looking (HasLooked seen) (HasJudged seen)
        (none-judged seen (search (rules, is))) now.told next))
    looked seen false is made next = (
      looks-token _ _ _ made.shown ∙ same,
      (search (rules, is, arith)),
      goes-on before now runner Before HasListedNone stands looking same
          lists tt _ (λ result stood. refl) made (HasLooked seen) next,
      looks-last _ _ _ made.shown,
    )

    pub look-stands : (seen : Lister) →
        MakesCall before now looking lists
        (λ answer. Looks looking answer (Ok seen)) →
        StandsIn now looking (HasLooked seen) →
        StandsAs now runner (after_look runner.asked.request seen)
    look-stands seen made next = looked seen _ refl made next

  module _ (seen : Lister) (stands : At before runner Before (HasLooked seen))
      (same : seen.token ≡ runner.token) (not_last : seen.greatest ≢ greatest_lock) where
    -- after the read
    pub read-stands : (told : Told) →
        MakesCall before now seen.token
        (reads (Lock seen.greatest)) (λ answer. Reads seen answer (Ok told)) →
        StandsTold now seen.token told →
        StandsAs now runner (after_read runner.asked.request told)
    read-stands (Judged judged) made next = judged-stands judged
        (reads-judged _ _ _ made.shown ∙ same)
        (goes-on before now runner Before (HasLooked seen) stands seen.token same
        (reads (Lock seen.greatest)) tt _ (λ result stood. refl) made (HasJudged judged) next)
    read-stands (Ask asking) made next = (
      reads-asking _ _ _ made.shown ∙ same,
      goes-on before now runner Before (HasLooked seen) stands seen.token same
          (reads (Lock seen.greatest)) tt _ (λ result stood. refl) made (HasReadHeld asking) next,
      subst (λ (number : ℕ). number ≢ greatest_lock) (sym (reads-number _ _ _ made.shown)) not_last,
    )

  module _ (claimed : Maker) (stands : At before runner Before (HasMade claimed))
      (same : claimed.token ≡ runner.token) where
    -- after the second listing
    pub confirm-stands : (confirmed : Confirmed) →
        MakesCall before now claimed.token lists
        (λ answer. Confirms claimed answer (Ok confirmed)) →
        StandsConfirmed now claimed.token confirmed →
        StandsAs now runner (after_listing confirmed)
    confirm-stands (Keeper keeper) made next = (
      confirms-keeper _ _ _ made.shown ∙ same,
      goes-on before now runner Before (HasMade claimed) stands claimed.token same
          lists tt _ (λ result stood. refl) made (Keeps keeper KnowsAnything) next,
    )
    confirm-stands (Loser loser) made next = (
      confirms-loser _ _ _ made.shown ∙ same,
      confirms-less _ _ _ made.shown,
      goes-on before now runner Before (HasMade claimed) stands claimed.token same
          lists tt _ (λ result stood. refl) made (WasOvertaken loser) next,
    )

-- a state with a judged lock tells of no fault
judged-by-quiet : (judged : Lister) (report : Bool) →
    TellsOutside (if report then Watching judged else Claiming judged) → ⊥
judged-by-quiet judged true fault = fault
judged-by-quiet judged false fault = fault

-- so the state behind the last lock that was judged tells of none
pub judged-quiet : (request : Request) (judged : Lister) →
    TellsOutside (after_judging request judged) → ⊥
judged-quiet request judged = judged-by-quiet judged _

-- nor does that after the read
pub read-quiet : (request : Request) (told : Told) → TellsOutside (after_read request told) → ⊥
read-quiet request (Judged judged) fault = judged-quiet request judged fault
read-quiet request (Ask asking) fault = fault

-- nor does that after the second listing
pub confirm-quiet : (confirmed : Confirmed) → TellsOutside (after_listing confirmed) → ⊥
confirm-quiet (Keeper keeper) fault = fault
confirm-quiet (Loser loser) fault = fault

-- nor does that after the first
looked-quiet : (request : Request) (seen : Lister) (is_none : Bool) →
    TellsOutside (if is_none then after_judging request seen else Reading seen) → ⊥
looked-quiet request seen true fault = judged-quiet request seen fault
looked-quiet request seen false fault = fault

-- so the state behind the first listing tells of none
pub look-quiet : (request : Request) (seen : Lister) → TellsOutside (after_look request seen) → ⊥
look-quiet request seen fault = looked-quiet request seen _ fault

-- ---- The end

-- a step to the lock that ends the way there leads to the answer to its end
pub lock-ends : (before now : Moment) (runner : Runner) (Held : Standing → Type 0) →
    At before runner Before Held → (token : Token) → token ≡ runner.token → (old : State) →
    IsTurnCall (Runs runner Before Held) (state_call old) →
    ((result : CallResult (Answer (state_call old))) (one : Standing) →
    own_command (standing_step (state_call old) result one) ≡ own_command one) → {S : Type 0}
    (Shows : Result (Answer (state_call old)) FolderFault → Type 0)
    (Holds : S → Standing → Type 0) (end : LockEnd)
    (sought : TakesStep before now token (state_call old) Shows Holds own_command folder_failed
    (Err end)) (state : State) →
    AnswersWith runner.asked.request.tool (cause_of_end end) state →
    MeetsBy (state_call old) sought.call.answer Held state →
    ((met : Cause) → IsToTell old met → IsToTell state met × MayFollow met (state_call old)) →
    (((answer : Answer (state_call old)) → sought.call.answer ≡ Ok answer →
    IfSome now.told (λ past. Met runner.token (state_call old) answer Held past.history)) →
    ((fault : FolderFault) → sought.call.answer ≡ Err fault →
    HasMetNow now runner (cause_of_fault Before fault)) →
    HasMetNow now runner (cause_of_end end)) →
    ((IsStopped (cause_of_end end) → ⊥) → LeavesUnkept (state_call old) sought.call.answer Held) →
    StagesTo (state_call old) state → Turns before now runner old state
lock-ends before now runner Held stands token same old of_turn quiet Shows Holds end sought state
    told meets leads met unkept =
    ends before now runner Before Held stands token same (state_call old) of_turn Shows quiet
    sought.call sought.lawful sought.faults.never_falls old state refl meets leads
    (cause_of_end end) told (end-plain end) met unkept (sym (end-stage end))
    (λ fault. sought.faults.failed (ap Err (end-failed end fault)))
