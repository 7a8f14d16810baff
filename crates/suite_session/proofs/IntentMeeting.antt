-- Claim: after a read of the intent the next state is to tell what the read shows (`intent-on`,
-- `intent-ends`). Way: an intent that stands and reads has no damaged part, and none that is absent; one
-- that is damaged has one first part that is, and each refusal tells what it shows.
use Rattle.std.proofs.Common.{◌≡◌, sym, ap, subst, ℕ, Result, Ok, Err}
use Rattle.acct_text.specs.Bytes.{Bytes}
use Rattle.account_model.specs.declared.tool.Tool.{Tool}
use Rattle.acct_outside.specs.declared.StageFault.{StageFault}
use Rattle.acct_outside.specs.declared.FolderFault.{FolderFault}
use Rattle.acct_outside.specs.declared.Name.TheVariants.{Intent}
use Rattle.acct_outside.specs.Calls.{Found, reads, found_absent, found_bytes, found_too_large}
use Rattle.intent_file.specs.Intent.{Intended, ReadsIntent}
use Rattle.intent_file.specs.Parts.{FirstFault}
use Rattle.intent_file.proofs.FirstFaultIsOne.{first_fault_is_one_holds}
use Rattle.suite_rules.specs.Standing.{Standing}
use Rattle.lock_steps.specs.States.{Kept}
use Rattle.lock_steps.specs.Stands.{Keeps, KnowsAnything}
use Rattle.recovery.specs.declared.IntentSeen.{IntentSeen}
use Rattle.recovery.specs.declared.IntentSeen.TheVariants.{Clean, Listed}
use Rattle.recovery.specs.declared.RecoveryEnd.{RecoveryEnd}
use Rattle.recovery.specs.declared.RecoveryEnd.TheVariants.{Fault, Damaged as IntentIsDamaged, TooLarge as IntentIsLarge}
use Rattle.recovery.specs.Outcomes.{FindsIntent}
use Rattle.suite_answers.specs.declared.cause.Which.TheVariants.{File}
use Rattle.suite_answers.specs.declared.cause.Cause.{Cause}
use Rattle.suite_answers.specs.declared.cause.Cause.TheVariants.{IntentDamaged, TooLarge}
use Rattle.suite_session.specs.declared.state.State.{State}
use Rattle.suite_session.specs.Recovering.{Refuses}
use Rattle.suite_session.specs.Stands.{LeavesWith}
use Rattle.suite_session.specs.Telling.{IsToTell}
use Rattle.suite_session.proofs.TellingLemmas.{Shows}
use Rattle.suite_session.proofs.MeetingLemmas.{MeetsBy, fault-ends, fault-tells, leaves-tell}

module _ (tool : Tool) (state : State) where
  -- a read of an intent that stands and reads
  read-none : (bytes : Bytes) (intent : Intended) → ReadsIntent bytes intent → (stood : Standing)
      (met : Cause) → Shows (reads Intent) (found_bytes bytes) stood met → ⊥
  read-none bytes intent reads_it stood (IntentDamaged part) shows =
      let same : shows.0 ≡ bytes = cc shows.1 in
      first_fault_is_one_holds.none_if_read bytes part intent
      (subst (λ (one : Bytes). FirstFault one part) same shows.2) reads_it
  read-none bytes intent reads_it stood (TooLarge (File Intent)) shows = absurd (cc shows.0)
  read-none bytes intent reads_it stood met shows = shows

  -- or of none
  absent-none : (stood : Standing) (met : Cause) → Shows (reads Intent) found_absent stood met → ⊥
  absent-none stood (IntentDamaged part) shows = absurd (cc shows.1)
  absent-none stood (TooLarge (File Intent)) shows = absurd (cc shows.0)
  absent-none stood met shows = shows

  pub intent-on : (keeper : Kept) (answer : Result Found FolderFault) (seen : IntentSeen) →
      FindsIntent keeper answer (Ok seen) →
      MeetsBy (reads Intent) answer (Keeps keeper KnowsAnything) state
  intent-on keeper (Ok found_absent) (Clean kept) shown =
      λ stood held met shows. absurd (absent-none stood met shows)
  intent-on keeper (Ok (found_bytes bytes)) (Listed recovering) shown = λ stood held met shows.
      absurd (read-none bytes shown.intent shown.reads_it stood met shows)
  intent-on keeper answer seen shown = absurd shown

  -- one of an intent of which a part doesn't stand
  part-tells : (bytes : Bytes) (part : ℕ) (kept : Kept) → FirstFault bytes part →
      LeavesWith tool kept (IntentDamaged part) state → (stood : Standing) (met : Cause) →
      Shows (reads Intent) (found_bytes bytes) stood met → IsToTell state met
  part-tells bytes part kept first leaves stood (IntentDamaged other) shows =
      let same : shows.0 ≡ bytes = cc shows.1 in
      subst (λ (one : ℕ). IsToTell state (IntentDamaged one))
      (first_fault_is_one_holds.one_part bytes part other first
      (subst (λ (one : Bytes). FirstFault one other) same shows.2))
      (leaves-tell tool kept (IntentDamaged part) state leaves)
  part-tells bytes part kept first leaves stood (TooLarge (File Intent)) shows = absurd (cc shows.0)
  part-tells bytes part kept first leaves stood met shows = absurd shows

  -- or of one that is too large
  large-tells : (kept : Kept) → LeavesWith tool kept (TooLarge (File Intent)) state →
      (stood : Standing) (met : Cause) → Shows (reads Intent) found_too_large stood met →
      IsToTell state met
  large-tells kept leaves stood (TooLarge (File Intent)) shows =
      leaves-tell tool kept (TooLarge (File Intent)) state leaves
  large-tells kept leaves stood (IntentDamaged part) shows = absurd (cc shows.1)
  large-tells kept leaves stood met shows = absurd shows

  pub intent-ends : (keeper : Kept) (answer : Result Found FolderFault) (end : RecoveryEnd) →
      FindsIntent keeper answer (Err end) → Refuses tool end state →
      MeetsBy (reads Intent) answer (Keeps keeper KnowsAnything) state
  intent-ends keeper (Ok (found_bytes bytes)) (IntentIsDamaged part kept) shown refuses =
      λ stood held. part-tells bytes part kept shown.0 refuses stood
  intent-ends keeper (Ok (found_bytes bytes)) (Fault fault) shown refuses =
      λ stood held met shows. fault-tells tool fault.stage fault.fault state refuses met
  intent-ends keeper (Ok found_too_large) (IntentIsLarge kept) shown refuses =
      λ stood held. large-tells kept refuses stood
  intent-ends keeper (Err fault) (Fault came) shown refuses =
      fault-ends tool came.stage came.fault state refuses (reads Intent) (Err fault)
      (Keeps keeper KnowsAnything) (ap Err (sym (ap (λ (one : StageFault). one.fault) shown)))
  intent-ends keeper answer end shown refuses = absurd shown
