-- What each step of a recovery gives by the answer of its one call (docs/ARCHITECTURE.md, "The
-- commit"). All faults come before the session's own commit.
use Rattle.std.specs.Prelude.{◌≡◌, Result, Ok, Err}
use Rattle.acct_text.specs.Bytes.{Bytes}
use Rattle.acct_outside.specs.declared.FolderFault.{FolderFault}
use Rattle.acct_outside.specs.declared.FolderFault.TheVariants.{Failed, Memory}
use Rattle.acct_outside.specs.declared.StageFault.{StageFault}
use Rattle.acct_outside.specs.Calls.{Found, found_absent, found_bytes, found_too_large}
use Rattle.intent_file.specs.Intent.{Intended, ReadsIntent}
use Rattle.intent_file.specs.Parts.{FirstFault}
use Rattle.suite_rules.specs.Outcomes.{before_commit}
use Rattle.lock_steps.specs.States.{Kept}
use Rattle.recovery.specs.declared.IntentSeen.{IntentSeen}
use Rattle.recovery.specs.declared.IntentSeen.TheVariants.{Clean, Listed}
use Rattle.recovery.specs.declared.RecoveryEnd.{RecoveryEnd}
use Rattle.recovery.specs.declared.RecoveryEnd.TheVariants.{Fault, Damaged, TooLarge}
use Rattle.recovery.specs.States.{Recoverer}

-- the folder failed before it
abbrev pub failed_before : StageFault
failed_before = before_commit Failed

-- the bytes read as an intent, and of its tables all are left
pub record ListsAll (keeper : Kept) (bytes : Bytes) (recovering : Recoverer) : Type 0 where
  pub intent : Intended
  pub reads_it : ReadsIntent bytes intent
  pub is : recovering ≡ record { keeper = keeper; left = intent.tables }

-- the bytes of an intent lead to its tables; where they don't read, the first part that doesn't
-- stand is told; and memory may run out for the tables
abbrev pub ReadsBytes : Kept → Bytes → Result IntentSeen RecoveryEnd → Type 0
ReadsBytes keeper bytes (Ok (Listed recovering)) = ListsAll keeper bytes recovering
ReadsBytes keeper bytes (Err (Damaged part kept)) = FirstFault bytes part × (kept ≡ keeper)
ReadsBytes keeper bytes (Err (Fault fault)) = fault ≡ before_commit Memory
ReadsBytes _ _ _ = ⊥

-- a read of the intent: where it is absent the keeper is clean
abbrev pub FindsIntent : Kept → Result Found FolderFault → Result IntentSeen RecoveryEnd → Type 0
FindsIntent keeper (Ok found_absent) (Ok (Clean kept)) = kept ≡ keeper
FindsIntent keeper (Ok (found_bytes bytes)) result = ReadsBytes keeper bytes result
FindsIntent keeper (Ok found_too_large) (Err (TooLarge kept)) = kept ≡ keeper
FindsIntent keeper (Err fault) (Err (Fault came)) = came ≡ before_commit fault
FindsIntent _ _ _ = ⊥
