-- The call that a state makes next, as the program names it, so that its session may die in it
-- (docs/ARCHITECTURE.md, "Typed steps").
use Rattle.std.specs.Prelude.{◌≡◌, ⊤, slice_get, Option, Some, None}
use Rattle.acct_outside.specs.declared.Call.{Call as FolderCall}
use Rattle.acct_outside.specs.declared.Name.TheVariants.{FreeStage, Lock}
use Rattle.acct_outside.specs.Calls.{Call, removes, writes}
use Rattle.acct_outside.specs.NamedCalls.{IsLaterCall, call_of}
use Rattle.acct_outside.specs.Tokens.{free_text}
use Rattle.suite_rules.specs.Deeds.{SuiteDeeds}
use Rattle.suite_rules.specs.Standing.{Standing}
use Rattle.suite_rules.specs.Rules.{Permits}
use Rattle.lock_steps.specs.States.{Kept}

-- The program's call is this one of a history. With a lock to name it names only what a session that has
-- begun may name, and for whatever deeds the rules permit it where its session stands so.
pub record IsCallWhere (HasLock : Type 0) (Stands : SuiteDeeds → Standing → Type 0) (next : Call)
    (call : FolderCall) : Type 0 where
  pub names : call_of call ≡ next
  pub later : HasLock → IsLaterCall call
  pub permitted : (deeds : SuiteDeeds) (stood : Standing) → Stands deeds stood →
      Permits deeds stood next

-- the same where it names no lock that there may not be, and deeds don't matter
abbrev pub IsNextCall : (Standing → Type 0) → Call → FolderCall → Type 0
IsNextCall Stands next call = IsCallWhere ⊤ (λ deeds. Stands) next call

-- the call for what is next, and the last one where nothing is left
abbrev pub next_or : {A : Type 0} → Call → (A → Call) → Option A → Call
next_or last call_for None = last
next_or last call_for (Some next) = call_for next

-- a keeper that frees its lock removes the first of the lower locks that are left, and then stages the
-- free text
abbrev pub unlocking_call : Kept → Call
unlocking_call keeper = next_or (writes FreeStage free_text) (λ number. removes (Lock number))
    (slice_get keeper.lower 0)
