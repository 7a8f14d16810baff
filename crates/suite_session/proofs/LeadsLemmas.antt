-- Claim: a step that can't be refused has its next state where its call was done (`leads-on`), and
-- else a fault with its stage (`leads-stage`, `leads-failed`).
use Rattle.std.proofs.Common.{◌≡◌, ap, Result, Ok, Err}
use Rattle.acct_outside.specs.declared.CommitStage.{CommitStage}
use Rattle.acct_outside.specs.declared.FolderFault.{FolderFault}
use Rattle.acct_outside.specs.declared.FolderFault.TheVariants.{Failed}
use Rattle.acct_outside.specs.declared.StageFault.{StageFault}
use Rattle.suite_rules.specs.Outcomes.{LeadsTo, at_stage}

-- a done one has the next state
pub leads-on : {A State Fault : Type 0} (next : State) (given_as : FolderFault → Fault)
    (answer : Result A FolderFault) (state : State) → LeadsTo next given_as answer (Ok state) →
    state ≡ next
leads-on next given_as (Ok answer) state shown = shown
leads-on next given_as (Err fault) state shown = absurd shown

-- a fault has its stage
pub leads-fault : {A State : Type 0} (next : State) (staged : FolderFault → StageFault)
    (answer : Result A FolderFault) (fault : StageFault) →
    LeadsTo next staged answer (Err fault) → (came : FolderFault) × (fault ≡ staged came)
leads-fault next staged (Err came) fault shown = (came, shown)
leads-fault next staged (Ok answer) fault shown = absurd shown

-- of a step before or after the commit
pub leads-stage : {A State : Type 0} (next : State) (stage : CommitStage)
    (answer : Result A FolderFault) (fault : StageFault) →
    LeadsTo next (at_stage stage) answer (Err fault) → fault.stage ≡ stage
leads-stage next stage (Err came) fault shown = ap (λ (one : StageFault). one.stage) shown
leads-stage next stage (Ok answer) fault shown = absurd shown

-- where the folder failed, it tells that with the stage
pub leads-failed : {A State : Type 0} (next : State) (stage : CommitStage)
    (answer : Result A FolderFault) (fault : StageFault) →
    LeadsTo next (at_stage stage) answer (Err fault) → fault.fault ≡ Failed →
    fault ≡ at_stage stage Failed
leads-failed next stage answer fault shown failed =
    λ i. record { fault = failed i; stage = leads-stage next stage answer fault shown i }
