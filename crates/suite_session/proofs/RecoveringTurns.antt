-- Claim: each step of a recovery leads to the next state, and a read of the intent to the state that
-- follows from what it found (`seen-stands`), or to the way out (`refused-turn`).
use Rattle.std.proofs.Common.{◌≡◌, [], refl, sym, ap, subst, ◌∙◌, ◌<◌, ◌∷◌, ℕ, List, length, slice_get, IfSome, Result, Ok, Err, rules, arith, Some}
use Rattle.acct_outside.specs.declared.FolderFault.{FolderFault}
use Rattle.acct_outside.specs.declared.CommitStage.TheVariants.{Before}
use Rattle.acct_outside.specs.declared.StageFault.{StageFault}
use Rattle.acct_outside.specs.declared.Name.TheVariants.{Intent}
use Rattle.acct_outside.specs.Calls.{Found, found_absent, found_bytes, found_too_large, reads}
use Rattle.suite_rules.specs.Steps.{MakesCall}
use Rattle.intent_file.specs.Intent.{NewTable}
use Rattle.lock_steps.specs.States.{Kept}
use Rattle.lock_steps.specs.Stands.{Keeps, KnowsAnything, KnowsNoneYet}
use Rattle.recovery.specs.States.{Recoverer}
use Rattle.recovery.specs.declared.IntentSeen.{IntentSeen}
use Rattle.recovery.specs.declared.IntentSeen.TheVariants.{Clean, Listed}
use Rattle.recovery.specs.declared.RecoveryEnd.{RecoveryEnd}
use Rattle.recovery.specs.declared.RecoveryEnd.TheVariants.{Fault, Damaged, TooLarge}
use Rattle.recovery.specs.Outcomes.{FindsIntent, failed_before}
use Rattle.acct_outside.specs.Moment.{Moment}
use Rattle.suite_session.specs.Moment.{Runs, At}
use Rattle.commit_steps.specs.States.{start_of}
use Rattle.commit_steps.specs.Stands.{HasRead}
use Rattle.commit_steps.proofs.ReadsLemmas.{starts-reading}
use Rattle.suite_rules.specs.Knowledge.{nothing_seen}
use Rattle.suite_rules.proofs.StepLemmas.{stands-weaker}
use Rattle.recovery.specs.Stands.{Recovers, StandsSeen, StandsRefused}
use Rattle.account_model.specs.declared.tool.Tool.{Tool}
use Rattle.suite_answers.specs.declared.cause.Which.TheVariants.{File}
use Rattle.suite_answers.specs.declared.cause.Cause.TheVariants.{IntentDamaged, TooLarge as IsTooLarge}
use Rattle.suite_session.specs.declared.state.State.{State}
use Rattle.suite_session.specs.Runner.{Runner}
use Rattle.suite_session.specs.Locking.{cause_of_fault}
use Rattle.suite_session.specs.Recovering.{after_intent, Refuses}
use Rattle.suite_session.specs.Stands.{StandsAs, TellsOutside}
use Rattle.suite_session.proofs.CauseLemmas.{answers-fault, fault-failed, fault-plain, fault-stage, leaves-fault}
use Rattle.suite_session.proofs.LeavingLemmas.{fault-stopped}
use Rattle.suite_session.proofs.TurnLemmas.{HasMetNow, ended, goes-on, got, answers-turn, leaves-turn, memory-met}
use Rattle.suite_session.proofs.MetLemmas.{damaged-met, large-met}

-- ---- A read of the intent keeps the token

-- of a clean keeper
seen-keeper : (keeper : Kept) (answer : Result Found FolderFault) (kept : Kept) →
    FindsIntent keeper answer (Ok (Clean kept)) → kept.token ≡ keeper.token
seen-keeper keeper (Ok found_absent) kept shown = ap (λ (one : Kept). one.token) shown
seen-keeper keeper answer kept shown = absurd shown

-- of one that recovers
seen-recoverer : (keeper : Kept) (answer : Result Found FolderFault) (recovering : Recoverer) →
    FindsIntent keeper answer (Ok (Listed recovering)) → recovering.keeper.token ≡ keeper.token
seen-recoverer keeper (Ok (found_bytes bytes)) recovering shown =
    ap (λ (one : Recoverer). one.keeper.token) shown.is
seen-recoverer keeper answer recovering shown = absurd shown

-- a fault of the read comes before the commit
fault-before : (keeper : Kept) (answer : Result Found FolderFault) (fault : StageFault) →
    FindsIntent keeper answer (Err (Fault fault)) → fault.stage ≡ Before
fault-before keeper (Err came) fault shown = ap (λ (one : StageFault). one.stage) shown
fault-before keeper (Ok (found_bytes bytes)) fault shown =
    ap (λ (one : StageFault). one.stage) shown
fault-before keeper (Ok found_absent) fault shown = absurd shown
fault-before keeper (Ok found_too_large) fault shown = absurd shown

-- a refusal hands the keeper back
damaged-keeper : (keeper : Kept) (answer : Result Found FolderFault) (part : ℕ) (kept : Kept) →
    FindsIntent keeper answer (Err (Damaged part kept)) → kept.token ≡ keeper.token
damaged-keeper keeper (Ok (found_bytes bytes)) part kept shown =
    ap (λ (one : Kept). one.token) shown.1
damaged-keeper keeper answer part kept shown = absurd shown

-- and so does the refusal of an intent that is too large
large-keeper : (keeper : Kept) (answer : Result Found FolderFault) (kept : Kept) →
    FindsIntent keeper answer (Err (TooLarge kept)) → kept.token ≡ keeper.token
large-keeper keeper (Ok found_too_large) kept shown = ap (λ (one : Kept). one.token) shown
large-keeper keeper answer kept shown = absurd shown

-- a clean keeper that hasn't called its commit stands before its first read of a table
pub starts-loading : (now : Moment) (runner : Runner) (keeper : Kept) →
    At now runner Before (Keeps keeper KnowsNoneYet) →
    At now runner Before (HasRead (start_of keeper))
starts-loading now runner keeper stands =
    stands-weaker now.admits runner.token (Runs runner Before (Keeps keeper KnowsNoneYet))
    (Runs runner Before (HasRead (start_of keeper)))
    (λ stood runs. record {
      holds = starts-reading keeper stood
          (record { locks = runs.holds.locks; knows = (nothing_seen, runs.holds.knows) })
          runs.commits;
      asked = runs.asked;
      commits = runs.commits;
    })
    now.told stands

module _ (before now : Moment) (runner : Runner) (keeper : Kept)
    (stands : At before runner Before (Keeps keeper KnowsAnything))
    (same : keeper.token ≡ runner.token) where
  -- after a read of the intent
  pub seen-stands : (seen : IntentSeen) →
      MakesCall before now keeper.token (reads Intent)
      (λ answer. FindsIntent keeper answer (Ok seen)) →
      StandsSeen now keeper.token seen → StandsAs now runner (after_intent seen)
  seen-stands (Clean kept) made next = (
    seen-keeper keeper made.answer kept made.shown ∙ same,
    starts-loading now runner kept
        (goes-on before now runner Before (Keeps keeper KnowsAnything) stands keeper.token
        same (reads Intent) tt _ (λ result stood. refl) made (Keeps kept KnowsNoneYet) next),
  )
  seen-stands (Listed recovering) made next = (
    seen-recoverer keeper made.answer recovering made.shown ∙ same,
    goes-on before now runner Before (Keeps keeper KnowsAnything) stands keeper.token same
        (reads Intent) tt _ (λ result stood. refl) made (Recovers recovering) next,
  )

  -- one that came to a fault met that, and want of memory for the tables nothing
  intent-fault-met : (answer : Result Found FolderFault) (fault : StageFault) →
      FindsIntent keeper answer (Err (Fault fault)) → ((came : FolderFault) → answer ≡ Err came →
      HasMetNow now runner (cause_of_fault fault.stage came)) →
      HasMetNow now runner (cause_of_fault fault.stage fault.fault)
  intent-fault-met (Err came) fault shown met =
      subst (λ (one : FolderFault). HasMetNow now runner (cause_of_fault fault.stage one))
      (sym (ap (λ (one : StageFault). one.fault) shown)) (met came refl)
  intent-fault-met (Ok (found_bytes bytes)) fault shown met =
      subst (λ (one : FolderFault). HasMetNow now runner (cause_of_fault fault.stage one))
      (sym (ap (λ (one : StageFault). one.fault) shown)) (memory-met now runner fault.stage)
  intent-fault-met (Ok found_absent) fault shown met = absurd shown
  intent-fault-met (Ok found_too_large) fault shown met = absurd shown

  -- after one that leads no further
  pub refused-stands : (end : RecoveryEnd) (state : State) →
      Refuses runner.asked.request.tool end state →
      MakesCall before now keeper.token (reads Intent)
      (λ answer. FindsIntent keeper answer (Err end)) →
      StandsRefused now keeper.token end → StandsAs now runner state
  refused-stands (Fault fault) state refuses made next =
      answers-turn before now runner Before (Keeps keeper KnowsAnything) stands
      keeper.token same (reads Intent) tt _ (λ result stood. refl) made _ state refuses
      (fault-plain fault.stage fault.fault)
      (intent-fault-met made.answer fault made.shown
      (ended before now runner Before (Keeps keeper KnowsAnything) stands keeper.token same
      (reads Intent) tt _ (λ result stood. refl) made fault.stage))
      (λ goes_on. absurd (goes_on (fault-stopped fault.stage fault.fault)))
      (sym (fault-stage fault.stage fault.fault
      ∙ fault-before keeper made.answer fault made.shown))
  refused-stands (Damaged part kept) state refuses made next =
      leaves-turn before now runner Before (Keeps keeper KnowsAnything) stands
      keeper.token same (reads Intent) tt _ (λ result stood. refl) made kept (IntentDamaged part)
      state refuses tt
      (damaged-met runner now.told keeper made.answer part kept made.shown
      (got before now runner Before (Keeps keeper KnowsAnything) stands keeper.token same
      (reads Intent) tt _ (λ result stood. refl) made))
      (λ fault. fault) refl
      (damaged-keeper keeper made.answer part kept made.shown ∙ same) next
  refused-stands (TooLarge kept) state refuses made next =
      leaves-turn before now runner Before (Keeps keeper KnowsAnything) stands
      keeper.token same (reads Intent) tt _ (λ result stood. refl) made kept
      (IsTooLarge (File Intent)) state refuses tt
      (large-met runner now.told keeper made.answer kept made.shown
      (got before now runner Before (Keeps keeper KnowsAnything) stands keeper.token same
      (reads Intent) tt _ (λ result stood. refl) made))
      (λ fault. fault) refl
      (large-keeper keeper made.answer kept made.shown ∙ same) next

-- it tells of a fault of the folder only where that failed
pub refused-failed : (tool : Tool) (end : RecoveryEnd) (state : State) → Refuses tool end state →
    (keeper : Kept) (answer : Result Found FolderFault) → FindsIntent keeper answer (Err end) →
    TellsOutside state → end ≡ Fault failed_before
refused-failed tool (Fault fault) state refuses keeper answer shown told =
    let failed = fault-failed fault.stage fault.fault
    (answers-fault tool (cause_of_fault fault.stage fault.fault) state refuses told) in
    ap Fault (λ i. record { fault = failed i; stage = fault-before keeper answer fault shown i })
refused-failed tool (Damaged part kept) state refuses keeper answer shown told =
    absurd (leaves-fault tool kept (IntentDamaged part) state refuses told)
refused-failed tool (TooLarge kept) state refuses keeper answer shown told =
    absurd (leaves-fault tool kept (IsTooLarge (File Intent)) state refuses told)

-- a read of the intent that leads on tells of no fault
pub seen-quiet : (seen : IntentSeen) → TellsOutside (after_intent seen) → ⊥
seen-quiet (Clean kept) fault = fault
seen-quiet (Listed recovering) fault = fault

-- ---- A table that the intent lists

-- what holds of the next table, where one is left
pub some-next : {P : NewTable → Type 0} (left : List NewTable) → 0 < length left →
    IfSome (slice_get left 0) P → (next : NewTable) × P next × (slice_get left 0 ≡ Some next)
some-next [] some holds = absurd (search (rules, some, arith))
some-next (next ∷ left) some holds = (next, holds, refl)
