-- Claims: where a walker comes to by what is left of its way (`walked-end`, `walked-more`, `walked-step`),
-- and that a step with this call to there is its next (`walks-on`). Way: by the counts of what is left.
use Rattle.std.specs.Prelude.{nat_lt}
use Rattle.std.proofs.Common.{◌≡◌, ap, sym, subst, ◌∙◌, ◌<◌, ℕ, Bool, if◌then◌else◌, Result}
use Rattle.acct_outside.specs.declared.FolderFault.{FolderFault}
use Rattle.acct_outside.specs.declared.StageFault.{StageFault}
use Rattle.acct_outside.specs.Calls.{Call}
use Rattle.acct_outside.specs.Moment.{Moment}
use Rattle.suite_rules.specs.Standing.{Standing}
use Rattle.suite_rules.specs.Outcomes.{LeadsTo}
use Rattle.recovery.proofs.CarryLemmas.{some-staged}
use Rattle.commit_steps.specs.declared.walking.Walked.{Walked}
use Rattle.commit_steps.specs.declared.walking.Walked.TheVariants.{More, Done}
use Rattle.commit_steps.specs.States.{Walker, append_on, step_on, steps_left}
use Rattle.commit_steps.specs.Walks.{WalksOn, walked_on}

module _ {A : Type 0} (walker : Walker) (pieces : ℕ) (end : A) where
  -- with no step left it is behind the tables
  pub walked-end : steps_left walker ≡ 0 → walked_on walker pieces end ≡ Done end
  walked-end none = ap (λ (left : ℕ). if nat_lt 0 left
      then More (if nat_lt 0 pieces then append_on walker else step_on walker)
      else Done end) none

  -- with one left it is on its way
  on-way : 0 < steps_left walker → walked_on walker pieces end
      ≡ More (if nat_lt 0 pieces then append_on walker else step_on walker)
  on-way some = ap (λ (more : Bool). if more
      then More (if nat_lt 0 pieces then append_on walker else step_on walker)
      else Done end) (some-staged (steps_left walker) some)

  -- it has staged a piece more, where one was left
  pub walked-more : 0 < steps_left walker → 0 < pieces →
      walked_on walker pieces end ≡ More (append_on walker)
  walked-more some left = on-way some
      ∙ ap (λ (more : Bool). More (if more then append_on walker else step_on walker))
      (some-staged pieces left)

  -- and else is one step on
  pub walked-step : 0 < steps_left walker → pieces ≡ 0 →
      walked_on walker pieces end ≡ More (step_on walker)
  walked-step some whole = on-way some
      ∙ ap (λ (left : ℕ). More (if nat_lt 0 left then append_on walker else step_on walker)) whole

-- a step with this call to there is the next one
pub walks-on : {A : Type 0} (call made : Call) (on to : Walked Walker A)
    (staged : FolderFault → StageFault) (Holds : Walker → Standing → Type 0)
    (Ends : A → Standing → Type 0) (walker : Walker) (before now : Moment)
    (result : Result (Walked Walker A) StageFault) → made ≡ call → to ≡ on →
    WalksOn call on staged Holds Ends walker before now result →
    WalksOn made to staged Holds Ends walker before now result
walks-on {A} call made on to staged Holds Ends walker before now result is_call is_on takes =
    subst (λ (one : Call). WalksOn one to staged Holds Ends walker before now result) (sym is_call)
    (subst (λ (one : Walked Walker A). WalksOn call one staged Holds Ends walker before now result)
    (sym is_on) takes)

-- a call that leads to one place leads to the same by another name
pub leads-as : {A B : Type 0} (staged : FolderFault → StageFault)
    (answer : Result (Unit {0}) FolderFault) (result : Result (Walked Walker A) StageFault)
    {got led : B} → got ≡ led → (to : B → Walked Walker A) →
    LeadsTo (to got) staged answer result → LeadsTo (to led) staged answer result
leads-as {A} {B} staged answer result is to shown =
    subst (λ (one : B). LeadsTo (to one) staged answer result) is shown
