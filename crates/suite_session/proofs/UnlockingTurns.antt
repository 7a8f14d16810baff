-- Claim: each step of a keeper on its way out leads to the next state of it with the same answer, or
-- to the answer of a fault (`lowers`, `stages`, `frees`).
-- Way: the typed step gives the standing, and what it leaves of the standing keeps the answer due
-- (`out-turn`). Each call may follow whatever the answer tells (`out-follows`).
use Rattle.std.proofs.Common.{◌≡◌, refl, sym, ap, subst, ◌∙◌, ℕ, inl, Some, IfSome, Ok}
use Rattle.acct_outside.specs.declared.Name.TheVariants.{FreeStage, Lock}
use Rattle.acct_outside.specs.Tokens.{Token, free_text}
use Rattle.acct_outside.specs.Calls.{Answer, Call, CallResult, writes, renames, removes}
use Rattle.suite_rules.specs.OwnLock.{kept_number}
use Rattle.suite_rules.specs.Standing.{Standing, standing_step}
use Rattle.suite_rules.specs.Steps.{Leaves, own_command, work}
use Rattle.lock_steps.specs.States.{Maker, Kept}
use Rattle.lock_steps.specs.declared.keeping.Ended.{Ended}
use Rattle.lock_steps.specs.Outcomes.{as_it_came, cleaned_once, freeing_of, the_end}
use Rattle.lock_steps.specs.NextCall.{unlocking_call}
use Rattle.lock_steps.specs.Steps.{FreesLock}
use Rattle.lock_steps.specs.Stands.{Keeps, KnowsAnything, HasStagedFree, HasFreed}
use Rattle.suite_answers.specs.declared.cause.Cause.{Cause}
use Rattle.suite_answers.specs.declared.cause.Cause.TheVariants.{DiskFault}
use Rattle.suite_answers.specs.declared.answer.Answer.{Answer as FinalAnswer}
use Rattle.suite_answers.specs.Reasons.{stage_of}
use Rattle.suite_session.specs.declared.state.State.{State}
use Rattle.suite_session.specs.declared.state.State.TheVariants.{Unlocking, Freeing, Answering}
use Rattle.suite_session.specs.Runner.{Runner}
use Rattle.acct_outside.specs.Moment.{Moment}
use Rattle.acct_outside.specs.declared.CommitStage.{CommitStage}
use Rattle.suite_session.specs.Moment.{At, Runs}
use Rattle.suite_session.specs.Telling.{IsLeavingCall, IsToTell, MayFollow}
use Rattle.suite_session.specs.Stands.{HasToGive, IsOutside, KnowsDecided, StagesTo, StandsAs, StandsFreeing, StandsUnlocking, TellsOutside, Turns}
use Rattle.suite_session.specs.Looks.{LooksLess}
use Rattle.suite_session.specs.NextCall.{state_call}
use Rattle.suite_session.proofs.DueTextLemmas.{free-due}
use Rattle.suite_session.proofs.TurnLemmas.{goes-on, extended, turns}
use Rattle.suite_session.proofs.WritingLemmas.{IsTurnCall}
use Rattle.suite_session.proofs.LeadsLemmas.{leads-on}
use Rattle.suite_session.proofs.LeavingLemmas.{clean-stays, freed-left}
use Rattle.suite_session.proofs.LooksLemmas.{few-less}
use Rattle.suite_session.proofs.MeetingLemmas.{IsQuiet, leads-done, quiet-on}
use Rattle.suite_rules.proofs.StepLemmas.{may-answer-now}
use Rattle.suite_session.proofs.DueLemmas.{gives-stay}

-- ---- What is told on the way out

-- a call on the way out may follow whatever is to be told, which is no fault outside the session
pub out-follows : (cause met : Cause) → cause ≡ met → (IsOutside cause → ⊥) → (call : Call) →
    IsLeavingCall call → MayFollow met call
out-follows cause met is quiet call leaving =
    by-met met (λ outside. quiet (subst IsOutside (sym is) outside))
  where
    by-met : (one : Cause) → (IsOutside one → ⊥) → MayFollow one call
    by-met (DiskFault stage) inside = absurd (inside tt)
    by-met one inside = leaving

-- a keeper's number is kept
kept-number : (keeper : Kept) (stood : Standing) → Keeps keeper KnowsAnything stood →
    kept_number stood.own ≡ Some keeper.number
kept-number keeper stood keeps = ap kept_number keeps.locks.owns

-- that of one that has staged the free text too
staged-number : (freeing : Maker) (stood : Standing) → HasStagedFree freeing stood →
    kept_number stood.own ≡ Some freeing.number
staged-number freeing stood staged = ap kept_number staged.locks.owns

-- and that of one that has freed its lock
freed-number : (number : ℕ) (stood : Standing) → HasFreed number stood →
    kept_number stood.own ≡ Some number
freed-number number stood freed = ap kept_number freed.owns

module _ (before now : Moment) (runner : Runner) (answer : FinalAnswer) where
  abbrev commit : CommitStage
  commit = stage_of answer.outcome.cause

  -- the answer tells no fault outside the session, and of a decision a keeper knows that no intent stands
  abbrev IsClean : Moment → Type 0
  IsClean one = IfSome one.told (KnowsDecided runner.token answer.outcome.cause)

  -- What stood so makes this call of its way out, and what was reached stands so, with the number that it
  -- keeps: then its answer stays due, and of each state that is to tell no more a turn leads to the next.
  out-turn : (Held : Standing → Type 0) (number : ℕ) →
      ((one : Standing) → Held one → kept_number one.own ≡ Some number) →
      At before runner commit Held → (token : Token) → token ≡ runner.token → IsClean before →
      (IsOutside answer.outcome.cause → ⊥) → HasToGive before runner answer → (call : Call) →
      IsTurnCall (Runs runner commit Held) call → IsLeavingCall call → IsQuiet call →
      ((result : CallResult (Answer call)) (one : Standing) →
      own_command (standing_step call result one) ≡ own_command one) → {S : Type 0}
      (next reached : S) (Holds : S → Standing → Type 0) →
      ((one : Standing) → Holds reached one → kept_number one.own ≡ Some number) →
      FreesLock before now token call next Holds (Ok reached) → (old state : State) →
      state_call old ≡ call → ((met : Cause) → IsToTell old met → answer.outcome.cause ≡ met) →
      ((met : Cause) → answer.outcome.cause ≡ met → IsToTell state met) →
      (At now runner commit (Holds reached) → IsClean now → HasToGive now runner answer →
      StandsAs now runner state) →
      (TellsOutside state → ⊥) → StagesTo call state → LooksLess old state →
      Turns before now runner old state
  out-turn Held number has stands token same clean quiet gives call of_turn leaving shows_none own
      next reached Holds has_still takes old state called told tells stood quiet_state staged less =
      let done = leads-done next as_it_came takes.call.answer reached takes.call.shown in
      let stands_now = goes-on before now runner commit Held stands token same call of_turn _ own
      takes.call (Holds reached) takes.next in
      let left = subst (λ (one : Token). Leaves work one before now) same takes.left in
      turns before now runner commit Held stands token same call of_turn _ own takes.call
      takes.lawful takes.faults.never_falls old state called
      (quiet-on call shows_none takes.call.answer done.0 Held state done.1)
      (λ met is. (
        tells met (told met is),
        out-follows answer.outcome.cause met (told met is) quiet call leaving,
      ))
      (stood stands_now
      (clean-stays runner.token answer.outcome.cause before.told now.told left clean)
      (gives-stay runner answer commit number Held (Holds reached) has has_still before now stands
      stands_now left
      (extended before now runner commit Held stands token same call of_turn _ own takes.call)
      gives))
      quiet_state staged less

  module _ (keeper : Kept) (stood : StandsUnlocking before runner keeper answer) where
    -- it removes a lower lock
    pub lowers : (number : ℕ) (kept : Kept) → unlocking_call keeper ≡ removes (Lock number) →
        FreesLock before now keeper.token (removes (Lock number)) (cleaned_once keeper)
        (λ one. Keeps one KnowsAnything) (Ok kept) →
        Turns before now runner (Unlocking keeper answer) (Unlocking kept answer)
    lowers number kept called takes =
        let is = leads-on (cleaned_once keeper) as_it_came takes.call.answer kept
        takes.call.shown in
        out-turn (Keeps keeper KnowsAnything) keeper.number (kept-number keeper) stood.stands
        keeper.token stood.same stood.clean stood.quiet stood.gives (removes (Lock number)) tt tt
        (λ given one met shows. shows) (λ result one. refl) (cleaned_once keeper) kept
        (λ one. Keeps one KnowsAnything)
        (λ one keeps. kept-number kept one keeps ∙ ap (λ (other : Kept). Some other.number) is)
        takes (Unlocking keeper answer) (Unlocking kept answer) called (λ met told. told)
        (λ met told. told)
        (λ stands clean gives. record {
          same = ap (λ (one : Kept). one.token) is ∙ stood.same;
          stands = stands;
          clean = clean;
          quiet = stood.quiet;
          gives = gives;
        })
        (λ fault. fault) tt (few-less (Unlocking keeper answer) (Unlocking kept answer) tt refl)

    -- it stages the free text
    pub stages : (freeing : Maker) → unlocking_call keeper ≡ writes FreeStage free_text →
        FreesLock before now keeper.token (writes FreeStage free_text) (freeing_of keeper)
        HasStagedFree (Ok freeing) →
        Turns before now runner (Unlocking keeper answer) (Freeing freeing answer)
    stages freeing called takes =
        let is = leads-on (freeing_of keeper) as_it_came takes.call.answer freeing
        takes.call.shown in
        out-turn (Keeps keeper KnowsAnything) keeper.number (kept-number keeper) stood.stands
        keeper.token stood.same stood.clean stood.quiet stood.gives (writes FreeStage free_text)
        (free-due runner commit keeper) tt (λ given one met shows. shows) (λ result one. refl)
        (freeing_of keeper) freeing HasStagedFree (λ one staged. staged-number freeing one staged
        ∙ ap (λ (other : Maker). Some other.number) is)
        takes (Unlocking keeper answer) (Freeing freeing answer) called (λ met told. told)
        (λ met told. told)
        (λ stands clean gives. record {
          same = ap (λ (one : Maker). one.token) is ∙ stood.same;
          stands = stands;
          clean = clean;
          quiet = stood.quiet;
          gives = gives;
        })
        (λ fault. fault) refl (few-less (Unlocking keeper answer) (Freeing freeing answer) tt refl)

  module _ (freeing : Maker) (stood : StandsFreeing before runner freeing answer) where
    -- it moves the free text to its lock
    pub frees : (ended : Ended) →
        FreesLock before now freeing.token (renames FreeStage (Lock freeing.number)) the_end
        (λ end. HasFreed freeing.number) (Ok ended) →
        Turns before now runner (Freeing freeing answer) (Answering answer)
    frees ended takes = out-turn (HasStagedFree freeing) freeing.number (staged-number freeing)
        stood.stands freeing.token stood.same stood.clean stood.quiet stood.gives
        (renames FreeStage (Lock freeing.number)) tt tt (λ given one met shows. shows)
        (λ result one. refl) the_end ended (λ end. HasFreed freeing.number)
        (freed-number freeing.number) takes (Freeing freeing answer) (Answering answer) refl
        (λ met told. told) (λ met told. inl told)
        (λ stands clean gives. record {
          may_answer = may-answer-now now.admits runner.token _ now.told stands;
          gives = gives;
          left = λ goes_on. freed-left runner.token answer.outcome.cause now.admits
              (Runs runner commit (HasFreed freeing.number)) freeing.number
              (λ one runs. runs.holds) now.told stands clean;
        })
        stood.quiet tt (few-less (Freeing freeing answer) (Answering answer) tt refl)
