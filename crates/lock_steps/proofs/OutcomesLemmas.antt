-- Claim: where a step leads on, the session stands as its next state says. Way: by the step's
-- outcome the call was done with the answer that leads there, and StandsLemmas has what that makes
-- of the standing. The lemmas stand in the order of the calls. Where a step tells that the folder
-- failed, its call told so (`counts`); so each call is a step (`takes-call`).
use Rattle.std.proofs.Common.{ap, refl, ℕ, ◌+◌, ◌≡◌, ◌<◌, List, length, get_or, Result, Ok, Err}
use Rattle.std.specs.Prelude.{IfOk, IsErrOf}
use Rattle.acct_outside.specs.declared.FolderFault.{FolderFault}
use Rattle.acct_outside.specs.declared.FolderFault.TheVariants.{Failed}
use Rattle.acct_outside.specs.declared.Name.TheVariants.{FreeStage, Lock}
use Rattle.acct_outside.specs.declared.Verdict.{Verdict}
use Rattle.acct_outside.specs.declared.Verdict.TheVariants.{Dead}
use Rattle.acct_outside.specs.declared.Created.{Created}
use Rattle.acct_outside.specs.declared.Created.TheVariants.{Done}
use Rattle.acct_outside.specs.Faults.{CountsFailure}
use Rattle.acct_outside.specs.Tokens.{Token, free_text}
use Rattle.acct_outside.specs.Calls.{Answer, Call, CallResult, Found, found_bytes, lists, reads, asks, creates, writes, renames, removes}
use Rattle.acct_outside.specs.Moment.{Narrows, Moment}
use Rattle.acct_outside.specs.Journal.{makes, reply_of}
use Rattle.acct_outside.specs.Contract.{Passes, ReadsFolder, Tells, found_result}
use Rattle.acct_outside.specs.declared.Name.{Name}
use Rattle.acct_outside.specs.declared.Found.{Found as Reading}
use Rattle.acct_outside.specs.Names.{name_limit}
use Rattle.acct_outside.specs.Life.{MayCall, running}
use Rattle.suite_rules.specs.Deeds.{SuiteDeeds}
use Rattle.suite_rules.specs.Rules.{Permits}
use Rattle.suite_rules.specs.Standing.{Standing, standing_step}
use Rattle.suite_rules.specs.Knowledge.{Knowledge}
use Rattle.suite_rules.specs.Outcomes.{LeadsTo}
use Rattle.suite_rules.specs.Steps.{StandsIn, TakesStep}
use Rattle.suite_rules.proofs.StepLemmas.{IsNoAnswer, read-notes, read-tells, stands-done, takes-step}
use Rattle.lock_steps.specs.declared.LockEnd.{LockEnd}
use Rattle.lock_steps.specs.declared.judging.Told.{Told}
use Rattle.lock_steps.specs.declared.judging.Told.TheVariants.{Judged, Ask}
use Rattle.lock_steps.specs.declared.claiming.Confirmed.{Confirmed}
use Rattle.lock_steps.specs.declared.claiming.Confirmed.TheVariants.{Keeper, Loser}
use Rattle.lock_steps.specs.declared.keeping.Ended.{Ended}
use Rattle.lock_steps.specs.States.{Lister, Asker, Maker, Overtaken, Kept}
use Rattle.lock_steps.specs.Stands.{HasNoLock, HasLooked, HasReadHeld, HasJudged, HasMade, WasOvertaken, Keeps, KnowsAnything, HasStagedFree, HasFreed, StandsTold, StandsConfirmed}
use Rattle.lock_steps.specs.Outcomes.{Looks, Reads, AsksAlive, Claims, Confirms, as_it_came, cleaned_once, freeing_of, the_end}
use Rattle.lock_steps.proofs.StandsLemmas.{looked, read-free, read-held, told-dead, made, kept, overtaken, cleaned, staged-free, freed}

-- a step that tells a failure only where its call did counts it as the call does
pub counts :
    {T U E : Type 0} (failure : E) (before now : ℕ)
    (came : Result T FolderFault) (result : Result U E)
    → (IsErrOf result failure → IsErrOf came Failed)
    → CountsFailure Failed before now came
    → CountsFailure failure before now result
counts failure before now came result only counted = record {
  never_falls = counted.never_falls;
  failed = λ is. counted.failed (only is);
}

-- a read with the limit of its name passes on as its call
pub read-passes :
    {before now : Moment} (token : Token) (name : Name) {found : Result Reading FolderFault}
    → ReadsFolder before now token name (name_limit name) found
    → Passes before now (Tells before now token (reads name) (found_result found))
    (makes (reads name) (reply_of (reads name) (found_result found))) found
read-passes {before} {now} token name {found} passes = record {
  told = read-tells before now token name found passes.told;
  narrows = passes.narrows;
  faults = passes.faults;
  noted = read-notes before now name name refl found passes.noted;
}

-- a call that the rules permit is a step, if the session stands by what the call leads to, and a
-- failure is told only where the folder told it
pub takes-call :
    {State Fault Part T : Type 0} {before now : Moment}
    (token : Token) (call : Call) → IsNoAnswer call → MayCall running call
    → (Held : Standing → Type 0)
    → ((deeds : SuiteDeeds) (stood : Standing) → Held stood → Permits deeds stood call)
    → (part : Standing → Part)
    → ((result : CallResult (Answer call)) (stood : Standing) → Held stood
    → part (standing_step call result stood) ≡ part stood)
    → (Shows : Result (Answer call) FolderFault → Result State Fault → Type 0)
    → (Holds : State → Standing → Type 0)
    → (failure : Fault) (answer : Result (Answer call) FolderFault) (came : Result T FolderFault)
    → (result : Result State Fault)
    → StandsIn before token Held
    → Passes before now (Tells before now token call answer) (makes call (reply_of call answer))
    came
    → Shows answer result
    → ((before now : Moment) → Narrows before.admits now.admits → Shows answer result
    → StandsIn before token Held → Tells before now token call answer
    → IfOk result (λ state. StandsIn now token (Holds state)))
    → (IsErrOf result failure → IsErrOf came Failed)
    → TakesStep before now token call (λ answer. Shows answer result) Holds part failure result
takes-call {before = before} {now = now} token call no_answer may Held permits part same Shows Holds
    failure answer came result stands passes shown leads only =
    takes-step before now passes.narrows token call no_answer may Held permits part same
    (λ answer. Shows answer result) Holds failure result answer stands
    (record { told = passes.told; noted = passes.noted }) shown
    (leads before now passes.narrows shown stands passes.told)
    (counts failure _ _ came result only passes.faults)

-- What each call leads to, by a folder that admits no more than before.
module _ (before now : Moment) (narrows : Narrows before.admits now.admits) (token : Token) where
  -- a listing
  pub look-leads :
      (answer : Result (List ℕ) FolderFault) (result : Result Lister LockEnd)
      → Looks token answer result
      → StandsIn before token HasNoLock
      → Tells before now token lists answer
      → IfOk result (λ seen. StandsIn now token (HasLooked seen))
  look-leads (Ok numbers) (Ok seen) shown stands tells =
      stands-done before.admits now.admits narrows token lists tt HasNoLock (HasLooked seen) numbers
      (looked numbers seen (ap (λ (lister : Lister). lister.greatest) shown.1))
      before.told now.told stands tells
  look-leads (Err fault) (Ok seen) shown stands tells = absurd shown
  look-leads answer (Err end) shown stands tells = tt

  -- a read of the greatest lock
  pub read-leads :
      (seen : Lister) (answer : Result Found FolderFault) (result : Result Told LockEnd)
      → Reads seen answer result
      → StandsIn before token (HasLooked seen)
      → Tells before now token (reads (Lock seen.greatest)) answer
      → IfOk result (StandsTold now token)
  read-leads seen (Ok (found_bytes text)) (Ok (Judged judged)) shown stands tells =
      stands-done before.admits now.admits narrows token (reads (Lock seen.greatest)) tt
      (HasLooked seen) (HasJudged judged) (found_bytes text)
      (λ stood held. read-free seen text stood held shown.0 judged shown.1) before.told now.told
      stands tells
  read-leads seen (Ok (found_bytes text)) (Ok (Ask asking)) shown stands tells =
      stands-done before.admits now.admits narrows token (reads (Lock seen.greatest)) tt
      (HasLooked seen) (HasReadHeld asking) (found_bytes text)
      (λ stood held. read-held seen text stood held asking shown.0
      (ap (λ (asker : Asker). asker.greatest) shown.1))
      before.told now.told stands tells
  read-leads seen answer (Err end) shown stands tells = tt
  read-leads seen answer result shown stands tells = absurd shown

  -- a verdict
  pub ask-leads :
      (asking : Asker) (answer : Result Verdict FolderFault) (result : Result Lister LockEnd)
      → AsksAlive asking answer result
      → StandsIn before token (HasReadHeld asking)
      → Tells before now token (asks asking.asked) answer
      → IfOk result (λ judged. StandsIn now token (HasJudged judged))
  ask-leads asking (Ok Dead) (Ok judged) shown stands tells =
      stands-done before.admits now.admits narrows token (asks asking.asked) tt
      (HasReadHeld asking) (HasJudged judged) Dead
      (told-dead asking judged (ap (λ (lister : Lister). lister.greatest) shown))
      before.told now.told stands tells
  ask-leads asking answer (Err end) shown stands tells = tt
  ask-leads asking answer result shown stands tells = absurd shown

  -- a create
  pub claim-leads :
      (judged : Lister) (answer : Result Created FolderFault) (result : Result Maker LockEnd)
      → Claims judged answer result
      → StandsIn before token (HasJudged judged)
      → Tells before now token (creates (judged.greatest + 1)) answer
      → IfOk result (λ claimed. StandsIn now token (HasMade claimed))
  claim-leads judged (Ok Done) (Ok claimed) shown stands tells =
      stands-done before.admits now.admits narrows token (creates (judged.greatest + 1)) tt
      (HasJudged judged) (HasMade claimed) Done
      (made (judged.greatest + 1) judged claimed (ap (λ (maker : Maker). maker.number) shown))
      before.told now.told stands tells
  claim-leads judged answer (Err end) shown stands tells = tt
  claim-leads judged answer result shown stands tells = absurd shown

  -- a second listing
  pub confirm-leads :
      (claimed : Maker) (answer : Result (List ℕ) FolderFault) (result : Result Confirmed LockEnd)
      → Confirms claimed answer result
      → StandsIn before token (HasMade claimed)
      → Tells before now token lists answer
      → IfOk result (StandsConfirmed now token)
  confirm-leads claimed (Ok numbers) (Ok (Keeper keeper)) shown stands tells =
      stands-done before.admits now.admits narrows token lists tt
      (HasMade claimed) (Keeps keeper KnowsAnything) numbers
      (λ stood held. kept claimed numbers stood held keeper shown.0
      (ap (λ (one : Kept). one.number) shown.1) (ap (λ (one : Kept). one.lower) shown.1))
      before.told now.told stands tells
  confirm-leads claimed (Ok numbers) (Ok (Loser loser)) shown stands tells =
      stands-done before.admits now.admits narrows token lists tt
      (HasMade claimed) (WasOvertaken loser) numbers
      (λ stood held. overtaken claimed numbers stood held loser shown.0
      (ap (λ (one : Overtaken). one.number) shown.1)
      (ap (λ (one : Overtaken). one.greatest) shown.1))
      before.told now.told stands tells
  confirm-leads claimed (Err fault) (Ok confirmed) shown stands tells = absurd shown
  confirm-leads claimed answer (Err end) shown stands tells = tt

  -- a removal of the first lower lock
  pub clean-leads :
      (keeper : Kept) (Knows : Knowledge → Type 0) (number : ℕ)
      (answer : Result (Unit {0}) FolderFault) (result : Result Kept FolderFault)
      → 0 < length keeper.lower
      → number ≡ get_or keeper.lower 0 0
      → LeadsTo (cleaned_once keeper) as_it_came answer result
      → StandsIn before token (Keeps keeper Knows)
      → Tells before now token (removes (Lock number)) answer
      → IfOk result (λ next. StandsIn now token (Keeps next Knows))
  clean-leads keeper Knows number (Ok tt) (Ok next) some first shown stands tells =
      stands-done before.admits now.admits narrows token (removes (Lock number)) tt
      (Keeps keeper Knows) (Keeps next Knows) tt
      (λ stood held. cleaned keeper Knows number stood held some first next
      (ap (λ (one : Kept). one.number) shown) (ap (λ (one : Kept). one.lower) shown))
      before.told now.told stands tells
  clean-leads keeper Knows number (Err fault) (Ok next) some first shown stands tells =
      absurd shown
  clean-leads keeper Knows number answer (Err came) some first shown stands tells = tt

  -- a write of the free text
  pub stage-leads :
      (keeper : Kept) (Knows : Knowledge → Type 0)
      (answer : Result (Unit {0}) FolderFault) (result : Result Maker FolderFault)
      → length keeper.lower ≡ 0
      → LeadsTo (freeing_of keeper) as_it_came answer result
      → StandsIn before token (Keeps keeper Knows)
      → Tells before now token (writes FreeStage free_text) answer
      → IfOk result (λ freeing. StandsIn now token (HasStagedFree freeing))
  stage-leads keeper Knows (Ok tt) (Ok freeing) none shown stands tells =
      stands-done before.admits now.admits narrows token (writes FreeStage free_text) tt
      (Keeps keeper Knows) (HasStagedFree freeing) tt
      (λ stood held. staged-free keeper Knows stood held none freeing
      (ap (λ (one : Maker). one.number) shown))
      before.told now.told stands tells
  stage-leads keeper Knows (Err fault) (Ok freeing) none shown stands tells = absurd shown
  stage-leads keeper Knows answer (Err came) none shown stands tells = tt

  -- a move of the free text
  pub move-leads :
      (freeing : Maker)
      (answer : Result (Unit {0}) FolderFault) (result : Result Ended FolderFault)
      → LeadsTo the_end as_it_came answer result
      → StandsIn before token (HasStagedFree freeing)
      → Tells before now token (renames FreeStage (Lock freeing.number)) answer
      → IfOk result (λ _. StandsIn now token (HasFreed freeing.number))
  move-leads freeing (Ok tt) (Ok ended) shown stands tells =
      stands-done before.admits now.admits narrows token (renames FreeStage (Lock freeing.number))
      tt
      (HasStagedFree freeing) (HasFreed freeing.number) tt
      (λ stood held. freed freeing stood held) before.told now.told stands tells
  move-leads freeing (Err fault) (Ok ended) shown stands tells = absurd shown
  move-leads freeing answer (Err came) shown stands tells = tt
