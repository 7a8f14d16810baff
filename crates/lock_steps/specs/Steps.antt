-- What a step on the lock gives, in one word: for a session that seeks the lock, and for a keeper that
-- frees it (docs/ARCHITECTURE.md, "Typed steps").
use Rattle.std.specs.Prelude.{Result}
use Rattle.acct_outside.specs.declared.FolderFault.{FolderFault}
use Rattle.acct_outside.specs.declared.FolderFault.TheVariants.{Failed}
use Rattle.acct_outside.specs.Tokens.{Token}
use Rattle.acct_outside.specs.Calls.{Call, Answer}
use Rattle.acct_outside.specs.Moment.{Moment}
use Rattle.suite_rules.specs.Outcomes.{LeadsTo}
use Rattle.suite_rules.specs.Standing.{Standing}
use Rattle.suite_rules.specs.Steps.{TakesStep, own_command, work}
use Rattle.lock_steps.specs.declared.LockEnd.{LockEnd}
use Rattle.lock_steps.specs.Outcomes.{as_it_came, folder_failed}

-- The session makes this call, whose answer shows so in the result. It keeps what it was asked and how
-- far its commit is.
abbrev pub SeeksLock : {State : Type 0} → Moment → Moment → Token → (call : Call)
    → (Result (Answer call) FolderFault → Result State LockEnd → Type 0)
    → (State → Standing → Type 0) → Result State LockEnd → Type 0
SeeksLock before now token call Shows Holds result =
    TakesStep before now token call (λ answer. Shows answer result) Holds own_command folder_failed
    result

-- The keeper makes this call, which done leads to this state. It keeps what it knows of the intent too.
abbrev pub FreesLock : {State : Type 0} → Moment → Moment → Token → (call : Call) → State
    → (State → Standing → Type 0) → Result State FolderFault → Type 0
FreesLock before now token call next Holds result =
    TakesStep before now token call (λ answer. LeadsTo next as_it_came answer result) Holds work
    Failed result
