-- Where a session goes after it has read the intent.
use Rattle.acct_outside.specs.declared.Name.TheVariants.{Intent}
use Rattle.account_model.specs.declared.tool.Tool.{Tool}
use Rattle.recovery.specs.declared.IntentSeen.{IntentSeen}
use Rattle.recovery.specs.declared.IntentSeen.TheVariants.{Clean, Listed}
use Rattle.recovery.specs.declared.RecoveryEnd.{RecoveryEnd}
use Rattle.recovery.specs.declared.RecoveryEnd.TheVariants.{Fault, Damaged, TooLarge}
use Rattle.commit_steps.specs.States.{start_of}
use Rattle.suite_answers.specs.declared.cause.Which.TheVariants.{File}
use Rattle.suite_answers.specs.declared.cause.Cause.TheVariants.{IntentDamaged, TooLarge as IsTooLarge}
use Rattle.suite_session.specs.declared.state.State.{State}
use Rattle.suite_session.specs.declared.state.State.TheVariants.{Loading, Recovering}
use Rattle.suite_session.specs.Locking.{cause_of_fault}
use Rattle.suite_session.specs.Stands.{AnswersWith, LeavesWith}

-- the state after a read of the intent
abbrev pub after_intent : IntentSeen → State
after_intent (Clean keeper) = Loading (start_of keeper)
after_intent (Listed recovering) = Recovering recovering

-- the state after a read of the intent that leads no further: a refusal leaves
abbrev pub Refuses : Tool → RecoveryEnd → State → Type 0
Refuses tool (Fault fault) state = AnswersWith tool (cause_of_fault fault.stage fault.fault) state
Refuses tool (Damaged part keeper) state = LeavesWith tool keeper (IntentDamaged part) state
Refuses tool (TooLarge keeper) state = LeavesWith tool keeper (IsTooLarge (File Intent)) state
