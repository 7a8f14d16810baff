-- Claims: where a step on the way to the lock refuses, the session met the cause of that (`look-met`,
-- `read-met`, `ask-met`, `claim-met`, `confirm-met`, `withdraw-met`); so it did where the intent can't
-- be read (`damaged-met`, `large-met`). Way: the refusal is that of the call's answer, and the session
-- stood as its state says when it made the call.
use Rattle.std.proofs.Common.{◌≡◌, ◌≢◌, refl, sym, ap, subst, ◌+◌, ◌<◌, ℕ, List, inl, inr, Option, Some, None, IfSome, Result, Ok, Err}
use Rattle.acct_outside.specs.declared.CommitStage.TheVariants.{Before}
use Rattle.acct_outside.specs.declared.FolderFault.{FolderFault}
use Rattle.acct_outside.specs.declared.FolderFault.TheVariants.{Memory as NoMemory}
use Rattle.acct_outside.specs.declared.Created.{Created}
use Rattle.acct_outside.specs.declared.Created.TheVariants.{Exists}
use Rattle.acct_outside.specs.declared.Verdict.{Verdict}
use Rattle.acct_outside.specs.declared.Verdict.TheVariants.{Alive}
use Rattle.acct_outside.specs.declared.Name.TheVariants.{Intent, Lock}
use Rattle.acct_outside.specs.Names.{greatest_lock}
use Rattle.acct_outside.specs.Tokens.{Token}
use Rattle.acct_outside.specs.Calls.{Call, Answer, Found, lists, reads, asks, creates, removes, found_absent, found_bytes, found_too_large}
use Rattle.acct_outside.specs.History.{History}
use Rattle.acct_outside.specs.Moment.{Past}
use Rattle.suite_rules.specs.OwnLock.{kept_number}
use Rattle.suite_rules.specs.Standing.{Standing}
use Rattle.lock_steps.specs.States.{Lister, Asker, Maker, Overtaken, Kept}
use Rattle.lock_steps.specs.Stands.{HasLooked, HasReadHeld, HasJudged, HasMade, WasOvertaken, Keeps, KnowsAnything}
use Rattle.lock_steps.specs.declared.LockRefusal.TheVariants.{Held, Gone, Raced, Outrun, Damaged, Exhausted}
use Rattle.lock_steps.specs.declared.LockEnd.{LockEnd}
use Rattle.lock_steps.specs.declared.LockEnd.TheVariants.{Refused, Folder}
use Rattle.lock_steps.specs.Outcomes.{Looks, Reads, AsksAlive, Claims, Confirms, Withdraws}
use Rattle.recovery.specs.declared.RecoveryEnd.TheVariants.{Damaged as IntentIsDamaged, TooLarge as IntentIsLarge}
use Rattle.recovery.specs.Outcomes.{FindsIntent}
use Rattle.suite_answers.specs.declared.cause.Which.TheVariants.{File}
use Rattle.suite_answers.specs.declared.cause.Cause.{Cause}
use Rattle.suite_answers.specs.declared.cause.Cause.TheVariants.{IntentDamaged, TooLarge}
use Rattle.suite_session.specs.Locking.{cause_of_end, cause_of_fault}
use Rattle.suite_session.specs.Causes.{Met, HasKept, HasListedNone, MetNoLock, MetDamage, MetHolder, MetNext}
use Rattle.suite_session.specs.Due.{ShowsOutrun}
use Rattle.suite_session.specs.Runner.{Runner}
use Rattle.suite_session.proofs.CauseLemmas.{IsMetAs}

-- what holds of a told history leads to what follows from it
pub told-as : {P Q : Past → Type 0} (told : Option Past) → ((past : Past) → P past → Q past) →
    IfSome told P → IfSome told Q
told-as None leads holds = tt
told-as (Some past) leads holds = leads past holds

-- what was met of a session that stood so was met of one that stood in a weaker way
pub met-weaker : (token : Token) (call : Call) (answer : Answer call)
    (Stood Weaker : Standing → Type 0) → ((stood : Standing) → Stood stood → Weaker stood) →
    (history : History) → Met token call answer Stood history → Met token call answer Weaker history
met-weaker token call answer Stood Weaker weaker history met = record {
  newer = met.newer;
  older = met.older;
  parts = met.parts;
  stood = weaker _ met.stood;
}

module _ (runner : Runner) (told : Option Past) where
  -- where the history is told, the session got this answer when it stood so
  abbrev pub Got : (call : Call) → Answer call → (Standing → Type 0) → Type 0
  Got call answer Stood = IfSome told (λ past. Met runner.token call answer Stood past.history)

  -- and has met what leads to this cause
  abbrev pub Meets : Cause → Type 0
  Meets cause = IfSome told (λ past. IsMetAs runner past.history cause)

  -- where the call came to a fault, it has met that
  abbrev pub Ended : (call : Call) → Result (Answer call) FolderFault → Type 0
  Ended call answer =
      (fault : FolderFault) → answer ≡ Err fault → Meets (cause_of_fault Before fault)

  -- that its own call came to one
  pub fault-meets : (call : Call) (came fault : FolderFault) →
      Ended call (Err fault) → came ≡ fault →
      Meets (cause_of_end (Folder came))
  fault-meets call came fault ended is = ended came (ap Err (sym is))

  -- of want of memory nothing is to be met
  memory-meets : Meets (cause_of_end (Folder NoMemory))
  memory-meets = by-told told
    where
      by-told : (some : Option Past) →
          IfSome some (λ past. IsMetAs runner past.history (cause_of_end (Folder NoMemory)))
      by-told None = tt
      by-told (Some past) = tt

  -- ---- On the way to the lock

  -- the first listing
  pub look-met : (looking : Token) (answer : Result (List ℕ) FolderFault) (end : LockEnd) →
      Looks looking answer (Err end) →
      ((numbers : List ℕ) → answer ≡ Ok numbers → Got lists numbers HasListedNone) →
      Ended lists answer → Meets (cause_of_end end)
  look-met looking (Ok numbers) (Refused Exhausted) shown got ended =
      told-as told (λ past met. (numbers, shown, met)) (got numbers refl)
  look-met looking (Err fault) (Folder came) shown got ended =
      fault-meets lists came fault ended shown
  look-met looking answer end shown got ended = absurd shown

  -- the read of the greatest lock
  pub read-met : (seen : Lister) (answer : Result Found FolderFault) (end : LockEnd) →
      0 < seen.greatest → seen.greatest ≢ greatest_lock → Reads seen answer (Err end) →
      ((found : Found) → answer ≡ Ok found →
      Got (reads (Lock seen.greatest)) found (HasLooked seen)) →
      Ended (reads (Lock seen.greatest)) answer → Meets (cause_of_end end)
  read-met seen (Ok found_absent) (Refused (Gone number)) some not_last shown got ended =
      told-as told (λ past met.
      subst (λ (one : ℕ). MetNoLock runner.token one past.history) (sym shown)
      (some, met, not_last)) (got found_absent refl)
  read-met seen (Ok found_too_large) (Refused (Damaged number)) some not_last shown got ended =
      told-as told (λ past met.
      subst (λ (one : ℕ). MetDamage runner.token one past.history) (sym shown)
      (found_too_large, tt, met, not_last)) (got found_too_large refl)
  read-met seen (Ok (found_bytes text)) (Refused (Damaged number)) some not_last shown got ended =
      told-as told (λ past met.
      subst (λ (one : ℕ). MetDamage runner.token one past.history) (sym shown.1)
      (found_bytes text, shown.0, met, not_last)) (got (found_bytes text) refl)
  read-met seen (Ok (found_bytes text)) (Folder NoMemory) some not_last shown got ended =
      memory-meets
  read-met seen (Err fault) (Folder came) some not_last shown got ended =
      fault-meets (reads (Lock seen.greatest)) came fault ended shown
  read-met seen answer end some not_last shown got ended = absurd shown

  -- the verdict on its holder
  pub ask-met : (asking : Asker) (answer : Result Verdict FolderFault) (end : LockEnd) →
      asking.greatest ≢ greatest_lock → AsksAlive asking answer (Err end) →
      ((verdict : Verdict) → answer ≡ Ok verdict →
      Got (asks asking.asked) verdict (HasReadHeld asking)) →
      Ended (asks asking.asked) answer → Meets (cause_of_end end)
  ask-met asking (Ok Alive) (Refused (Held holder)) not_last shown got ended = told-as told
      (λ past met. subst (λ (one : Token). MetHolder runner.token one past.history) (sym shown)
      (asking.greatest, met, not_last)) (got Alive refl)
  ask-met asking (Err fault) (Folder came) not_last shown got ended =
      fault-meets (asks asking.asked) came fault ended shown
  ask-met asking answer end not_last shown got ended = absurd shown

  -- the create of the next lock
  pub claim-met : (judged : Lister) (answer : Result Created FolderFault) (end : LockEnd) →
      Claims judged answer (Err end) → ((created : Created) → answer ≡ Ok created →
      Got (creates (judged.greatest + 1)) created (HasJudged judged)) →
      Ended (creates (judged.greatest + 1)) answer → Meets (cause_of_end end)
  claim-met judged (Ok Exists) (Refused (Raced number)) shown got ended = told-as told
      (λ past met. subst (λ (one : ℕ). MetNext runner.token one past.history) (sym shown)
      (judged.greatest, refl, met)) (got Exists refl)
  claim-met judged (Err fault) (Folder came) shown got ended =
      fault-meets (creates (judged.greatest + 1)) came fault ended shown
  claim-met judged answer end shown got ended = absurd shown

  -- the second listing
  pub confirm-met : (claimed : Maker) (answer : Result (List ℕ) FolderFault) (end : LockEnd) →
      Confirms claimed answer (Err end) →
      ((numbers : List ℕ) → answer ≡ Ok numbers → Got lists numbers (HasMade claimed)) →
      Ended lists answer → Meets (cause_of_end end)
  confirm-met claimed (Ok numbers) (Refused (Outrun number other)) shown got ended = told-as told
      (λ past met. subst (λ (one : ℕ). ShowsOutrun runner one other past.history) (sym shown.1)
      (subst (λ (one : ℕ). ShowsOutrun runner claimed.number one past.history) (sym shown.2)
      (inl (inr (numbers, refl, shown.0, met))))) (got numbers refl)
  confirm-met claimed (Err fault) (Folder came) shown got ended =
      fault-meets lists came fault ended shown
  confirm-met claimed answer end shown got ended = absurd shown

  -- the removal of a lock that was outrun
  pub withdraw-met : (loser : Overtaken) (answer : Result (Unit {0}) FolderFault) (end : LockEnd) →
      loser.number < loser.greatest → Withdraws loser answer end →
      ((unit : Unit {0}) → answer ≡ Ok unit →
      Got (removes (Lock loser.number)) unit (WasOvertaken loser)) →
      Ended (removes (Lock loser.number)) answer → Meets (cause_of_end end)
  withdraw-met loser (Ok unit) (Refused (Outrun number other)) less shown got ended = told-as told
      (λ past met. subst (λ (one : ℕ). ShowsOutrun runner one other past.history) (sym shown.0)
      (subst (λ (one : ℕ). ShowsOutrun runner loser.number one past.history) (sym shown.1)
      (inl (inl (less, met))))) (got unit refl)
  withdraw-met loser (Err fault) (Folder came) less shown got ended =
      fault-meets (removes (Lock loser.number)) came fault ended shown
  withdraw-met loser answer end less shown got ended = absurd shown

  -- ---- The intent

  -- a keeper has kept a number
  has-kept : (keeper : Kept) (stood : Standing) → Keeps keeper KnowsAnything stood → HasKept stood
  has-kept keeper stood keeps = (keeper.number, ap kept_number keeps.locks.owns)

  -- its bytes don't read
  pub damaged-met : (keeper : Kept) (answer : Result Found FolderFault) (part : ℕ) (kept : Kept) →
      FindsIntent keeper answer (Err (IntentIsDamaged part kept)) →
      ((found : Found) → answer ≡ Ok found →
      Got (reads Intent) found (Keeps keeper KnowsAnything)) → Meets (IntentDamaged part)
  damaged-met keeper (Ok (found_bytes bytes)) part kept shown got = told-as told
      (λ past met. (
        bytes,
        shown.0,
        inl (met-weaker runner.token (reads Intent) (found_bytes bytes) _ HasKept
            (has-kept keeper) past.history met),
      )) (got (found_bytes bytes) refl)
  damaged-met keeper answer part kept shown got = absurd shown

  -- it has too many
  pub large-met : (keeper : Kept) (answer : Result Found FolderFault) (kept : Kept) →
      FindsIntent keeper answer (Err (IntentIsLarge kept)) → ((found : Found) → answer ≡ Ok found →
      Got (reads Intent) found (Keeps keeper KnowsAnything)) → Meets (TooLarge (File Intent))
  large-met keeper (Ok found_too_large) kept shown got = told-as told
      (λ past met. inl (met-weaker runner.token (reads Intent) found_too_large _ HasKept
      (has-kept keeper) past.history met)) (got found_too_large refl)
  large-met keeper answer kept shown got = absurd shown
