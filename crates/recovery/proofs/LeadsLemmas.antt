-- Claims: what a step with one call that can't be refused gives (`takes-step`), and the same where the
-- call is for the first of what is left (`takes-next`). Way: by the step's outcome a state is led to
-- only where the call was done (`leads-on`); the rest holds of each call (suite_rules, StepLemmas). A
-- session that stands may act by each name of its token (`acts-as`).
use Rattle.std.proofs.Common.{◌≡◌, sym, subst, Option, Some, IfSome, Result, Ok, Err}
use Rattle.std.specs.Prelude.{IfOk}
use Rattle.acct_outside.specs.declared.FolderFault.{FolderFault}
use Rattle.acct_outside.specs.declared.FolderFault.TheVariants.{Failed}
use Rattle.acct_outside.specs.declared.StageFault.{StageFault}
use Rattle.acct_outside.specs.Tokens.{Token}
use Rattle.acct_outside.specs.Calls.{Call, Answer, CallResult, done}
use Rattle.acct_outside.specs.Life.{running, MayCall}
use Rattle.acct_outside.specs.Faults.{CountsFailure}
use Rattle.acct_outside.specs.Moment.{Narrows, Moment}
use Rattle.acct_outside.specs.Contract.{MayAct, Tells}
use Rattle.suite_rules.specs.Deeds.{SuiteDeeds}
use Rattle.suite_rules.specs.Standing.{Standing, standing_step}
use Rattle.suite_rules.specs.Rules.{Permits}
use Rattle.suite_rules.specs.Steps.{StandsIn, MakesCall, TakesNext, TakesStep, own_command}
use Rattle.suite_rules.specs.Outcomes.{LeadsTo}
use Rattle.suite_rules.proofs.StepLemmas.{Called, IsNoAnswer, may-act, stands-done, takes-step as step-taken}

-- a session that stands may act, by whatever name of its token
pub acts-as : (Held : Standing → Type 0) (now : Moment) (by token : Token) → by ≡ token →
    StandsIn now token Held → MayAct now by
acts-as Held now by token same stands =
    subst (λ (other : Token). MayAct now other) (sym same)
    (may-act now.admits token Held now.told stands)

-- One call that isn't the answer, from one condition to another.
module _ {State : Type 0} (call : Call) (no_answer : IsNoAnswer call) (Held : Standing → Type 0)
    (Holds : State → Standing → Type 0) (next : State)
    (follows : (answer : Answer call) (stood : Standing) → Held stood →
    Holds next (standing_step call (done answer) stood)) where
  -- where the step leads on, the next state stands
  pub leads-on : (staged : FolderFault → StageFault) (before now : Moment) →
      Narrows before.admits now.admits → (token : Token)
      (answer : Result (Answer call) FolderFault) (result : Result State StageFault) →
      LeadsTo next staged answer result → StandsIn before token Held →
      Tells before now token call answer →
      IfOk result (λ state. StandsIn now token (Holds state))
  leads-on staged before now narrows token (Ok answer) (Ok state)
      shown stands tells =
      subst (λ (other : State). StandsIn now token (Holds other)) (sym shown)
      (stands-done before.admits now.admits narrows token call no_answer Held (Holds next) answer
      (follows answer) before.told now.told stands tells)
  leads-on staged before now narrows token (Err fault) (Ok state)
      shown stands tells = absurd shown
  leads-on staged before now narrows token answer (Err came)
      shown stands tells = tt

  -- all that the step gives, where the rules permit the call and it leaves the command
  pub takes-step : MayCall running call →
      ((result : CallResult (Answer call)) (stood : Standing) → Held stood →
      own_command (standing_step call result stood) ≡ own_command stood) →
      ((deeds : SuiteDeeds) (stood : Standing) → Held stood → Permits deeds stood call) →
      (staged : FolderFault → StageFault) (before now : Moment) →
      Narrows before.admits now.admits → (token : Token)
      (answer : Result (Answer call) FolderFault) (result : Result State StageFault) →
      LeadsTo next staged answer result → StandsIn before token Held →
      Called before now token call answer →
      CountsFailure (staged Failed) before.faults now.faults result →
      TakesStep before now token call (λ answer. LeadsTo next staged answer result) Holds
      own_command (staged Failed) result
  takes-step may same permits staged before now narrows token answer result shown stands called
      faults = step-taken before now narrows token call no_answer may Held permits own_command same
      (λ answer. LeadsTo next staged answer result) Holds (staged Failed) result answer stands
      called shown
      (leads-on staged before now narrows token answer result shown stands called.told) faults

-- a step with the call for the first of what is left, where that is this one
pub takes-next : {A State Fault Part : Type 0} (before now : Moment) (token : Token)
    (next : Option A) (one : A) → next ≡ Some one → (call_for : A → Call)
    (Shows : (one : A) → Result (Answer (call_for one)) FolderFault → Type 0)
    (Holds : State → Standing → Type 0) (part : Standing → Part) (failure : Fault)
    (result : Result State Fault) →
    TakesStep before now token (call_for one) (Shows one) Holds part failure result →
    TakesNext before now token next call_for Shows Holds part failure result
takes-next {A} before now token next one is call_for Shows Holds part failure result
    taken = record {
      call = subst (λ (found : Option A). IfSome found (λ one.
          MakesCall before now token (call_for one) (Shows one))) (sym is) taken.call;
      next = taken.next;
      left = taken.left;
      lawful = taken.lawful;
      faults = taken.faults;
    }
