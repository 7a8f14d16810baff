-- Claim: where the read of the intent leads on, the session stands as its next state says, and a
-- refusal leaves its keeper standing (`read-leads`, `read-refuses`); a keeper is clean after a removal
-- (`removal-clean`). Way: by the step's outcome the call was done with the answer that leads there, and
-- RecoversLemmas has what that answer makes of the standing.
use Rattle.std.proofs.Common.{◌≡◌, refl, sym, subst, Result, Ok, Err}
use Rattle.std.specs.Prelude.{IfOk, IfErr, OnOk}
use Rattle.acct_outside.specs.declared.FolderFault.{FolderFault}
use Rattle.acct_outside.specs.declared.Name.TheVariants.{Intent}
use Rattle.acct_outside.specs.declared.Found.{Found as Reading}
use Rattle.acct_outside.specs.declared.Found.TheVariants.{Absent}
use Rattle.acct_outside.specs.Tokens.{Token}
use Rattle.acct_outside.specs.Calls.{Found, found_absent, found_bytes, found_too_large, reads, removes, done}
use Rattle.acct_outside.specs.Moment.{Narrows, Moment}
use Rattle.acct_outside.specs.Contract.{Tells, found_result}
use Rattle.suite_rules.specs.Standing.{Standing, standing_step}
use Rattle.suite_rules.specs.Steps.{StandsIn}
use Rattle.suite_rules.proofs.StepLemmas.{stands-done, stands-weaker}
use Rattle.lock_steps.specs.States.{Kept}
use Rattle.lock_steps.specs.Stands.{Keeps, KnowsAnything, KnowsNone, KnowsNoneYet}
use Rattle.lock_steps.proofs.KeeperLemmas.{clean-is-clean}
use Rattle.recovery.specs.declared.IntentSeen.{IntentSeen}
use Rattle.recovery.specs.declared.IntentSeen.TheVariants.{Clean, Listed}
use Rattle.recovery.specs.declared.RecoveryEnd.{RecoveryEnd}
use Rattle.recovery.specs.declared.RecoveryEnd.TheVariants.{Fault, Damaged, TooLarge}
use Rattle.recovery.specs.States.{Recoverer}
use Rattle.recovery.specs.Stands.{Recovers, StandsSeen, StandsRefused}
use Rattle.recovery.specs.Outcomes.{FindsIntent}
use Rattle.recovery.proofs.RecoversLemmas.{keeps-after-read, clean-after-read, recovers-after-read, clean-after-removal}

module _ (before now : Moment) (narrows : Narrows before.admits now.admits) (token : Token) where
  -- a done read of the intent leads to a condition that its answer leads to
  read-done : (keeper : Kept) (Holds : Standing → Type 0) (found : Found) →
      ((stood : Standing) → Keeps keeper KnowsAnything stood →
      Holds (standing_step (reads Intent) (done found) stood)) →
      StandsIn before token (Keeps keeper KnowsAnything) →
      Tells before now token (reads Intent) (Ok found) →
      StandsIn now token Holds
  read-done keeper Holds found follows stands tells =
      stands-done before.admits now.admits narrows token (reads Intent) tt
      (Keeps keeper KnowsAnything) Holds found follows before.told now.told stands tells

  -- whatever the read found, the keeper stands
  read-kept : (keeper kept : Kept) (found : Found) → kept ≡ keeper →
      StandsIn before token (Keeps keeper KnowsAnything) →
      Tells before now token (reads Intent) (Ok found) →
      StandsIn now token (Keeps kept KnowsAnything)
  read-kept keeper kept found same stands tells =
      subst (λ (other : Kept). StandsIn now token (Keeps other KnowsAnything)) (sym same)
      (read-done keeper (Keeps keeper KnowsAnything) found
      (λ stood keeps. keeps-after-read keeper stood keeps found) stands tells)

  -- where it found none, the keeper is clean
  read-clean : (keeper kept : Kept) → kept ≡ keeper →
      StandsIn before token (Keeps keeper KnowsAnything) →
      Tells before now token (reads Intent) (Ok found_absent) →
      StandsIn now token (Keeps kept KnowsNoneYet)
  read-clean keeper kept same stands tells =
      subst (λ (other : Kept). StandsIn now token (Keeps other KnowsNoneYet)) (sym same)
      (read-done keeper (Keeps keeper KnowsNoneYet) found_absent
      (λ stood keeps. clean-after-read keeper stood keeps) stands tells)

  -- then it knows that none stands
  pub absent-clean : (keeper : Kept) (found : Result Reading FolderFault) → found ≡ Ok Absent →
      StandsIn before token (Keeps keeper KnowsAnything) →
      Tells before now token (reads Intent) (found_result found) →
      StandsIn now token (Keeps keeper KnowsNone)
  absent-clean keeper found absent stands tells =
      stands-weaker now.admits token (Keeps keeper KnowsNoneYet) (Keeps keeper KnowsNone)
      (clean-is-clean keeper) now.told
      (read-clean keeper keeper refl stands
      (subst (λ (found : Result Reading FolderFault).
      Tells before now token (reads Intent) (found_result found)) absent tells))

  -- a read of the intent that leads on
  pub read-leads :
      (keeper : Kept) (answer : Result Found FolderFault) (result : Result IntentSeen RecoveryEnd)
      → FindsIntent keeper answer result
      → StandsIn before token (Keeps keeper KnowsAnything)
      → Tells before now token (reads Intent) answer
      → IfOk result (StandsSeen now token)
  read-leads keeper (Ok found_absent) (Ok (Clean kept)) shown stands tells =
      read-clean keeper kept shown stands tells
  read-leads keeper (Ok (found_bytes bytes)) (Ok (Listed recovering)) shown stands tells =
      read-done keeper (Recovers recovering) (found_bytes bytes)
      (λ stood keeps. recovers-after-read keeper stood keeps bytes recovering shown) stands tells
  read-leads keeper answer (Err end) shown stands tells = tt
  read-leads keeper answer result shown stands tells = absurd shown

  -- a read of the intent that refuses
  pub read-refuses :
      (keeper : Kept) (answer : Result Found FolderFault) (result : Result IntentSeen RecoveryEnd)
      → FindsIntent keeper answer result
      → StandsIn before token (Keeps keeper KnowsAnything)
      → Tells before now token (reads Intent) answer
      → IfErr result (StandsRefused now token)
  read-refuses keeper (Ok (found_bytes bytes)) (Err (Damaged part kept)) shown stands tells =
      read-kept keeper kept (found_bytes bytes) shown.1 stands tells
  read-refuses keeper (Ok found_too_large) (Err (TooLarge kept)) shown stands tells =
      read-kept keeper kept found_too_large shown stands tells
  read-refuses keeper answer (Err (Fault fault)) shown stands tells = tt
  read-refuses keeper answer (Ok seen) shown stands tells = tt
  read-refuses keeper answer (Err end) shown stands tells = absurd shown

  -- a done removal of the intent leaves the keeper clean: it knows that none stands
  pub removal-clean : (recovering : Recoverer) (answer : Result (Unit {0}) FolderFault) →
      StandsIn before token (Recovers recovering) →
      Tells before now token (removes Intent) answer →
      OnOk answer (StandsIn now token (Keeps recovering.keeper KnowsNone))
  removal-clean recovering (Ok unit) stands tells =
      stands-weaker now.admits token (Keeps recovering.keeper KnowsNoneYet)
      (Keeps recovering.keeper KnowsNone) (clean-is-clean recovering.keeper) now.told
      (stands-done before.admits now.admits narrows token (removes Intent) tt
      (Recovers recovering) (Keeps recovering.keeper KnowsNoneYet) unit
      (clean-after-removal recovering unit) before.told now.told stands tells)
  removal-clean recovering (Err fault) stands tells = tt
