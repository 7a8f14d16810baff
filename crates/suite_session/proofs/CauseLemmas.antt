-- Claims: an answer that tells a cause has it, or that there was no memory (`told-cause`); a cause that is
-- no tool's is told as it is, and shown by what the session met (`told-says`, `plain-shown`); and of a
-- fault outside a state tells only where its cause is one (`answers-fault`).
-- Way: by the causes.
use Rattle.std.proofs.Common.{◌≡◌, ◌⊎◌, refl, sym, ap, subst, ◌∙◌, inl, inr}
use Rattle.acct_outside.specs.declared.CommitStage.{CommitStage}
use Rattle.acct_outside.specs.declared.FolderFault.{FolderFault}
use Rattle.acct_outside.specs.declared.FolderFault.TheVariants.{Failed, Memory as NoMemory}
use Rattle.acct_outside.specs.declared.Name.TheVariants.{Table, Defs}
use Rattle.acct_outside.specs.History.{History}
use Rattle.lock_steps.specs.States.{Kept}
use Rattle.account_model.specs.declared.tool.Tool.{Tool}
use Rattle.suite_answers.specs.declared.cause.Which.TheVariants.{Input, File}
use Rattle.suite_answers.specs.declared.cause.Cause.{Cause}
use Rattle.suite_answers.specs.declared.cause.Cause.TheVariants.{Changed, Same, Refused, RefusedLine, Syntax, BatchSyntax, Held, Gone, Raced, Outrun, LockDamaged, Exhausted, IntentDamaged, TooLarge, NoTable, BadSetting, DiskFault, InputFault, OutputFault, ClockFault, Memory}
use Rattle.suite_answers.specs.declared.answer.Answer.{Answer as FinalAnswer}
use Rattle.suite_answers.specs.Reasons.{stage_of}
use Rattle.suite_session.specs.declared.state.State.{State}
use Rattle.suite_session.specs.declared.state.State.TheVariants.{Unlocking, Answering}
use Rattle.suite_session.specs.Runner.{Question, Runner}
use Rattle.suite_session.specs.Answers.{given_for, IsTold, Says}
use Rattle.suite_session.specs.Causes.{HasMet}
use Rattle.suite_session.specs.Due.{IsShown, ShowsOutrun}
use Rattle.suite_session.specs.Locking.{cause_of_fault}
use Rattle.suite_session.specs.Stands.{AnswersWith, LeavesWith, IsDecided, IsOutside, TellsOutside}

-- the answer to a cause has it
pub given-cause : (tool : Tool) (cause : Cause) → (given_for tool cause).outcome.cause ≡ cause
given-cause tool Changed = refl
given-cause tool cause = refl

-- an answer that tells a cause has it, or that there was no memory at its stage
pub told-cause : (tool : Tool) (cause : Cause) (answer : FinalAnswer) → IsTold tool cause answer →
    (answer.outcome.cause ≡ cause) ⊎ (answer.outcome.cause ≡ Memory (stage_of cause))
told-cause tool cause answer (inl is) =
    inl (ap (λ (given : FinalAnswer). given.outcome.cause) is ∙ given-cause tool cause)
told-cause tool cause answer (inr is) = inr (ap (λ (given : FinalAnswer). given.outcome.cause) is)

-- it has its stage, also where there was no memory to tell it
pub told-stage : (tool : Tool) (cause : Cause) (answer : FinalAnswer) → IsTold tool cause answer →
    stage_of answer.outcome.cause ≡ stage_of cause
told-stage tool cause answer told = elim (told-cause tool cause answer told) [
  | inl is ↦ ap stage_of is
  | inr is ↦ ap stage_of is
]

-- nothing but its own call is to be shown of a cause that is no tool's answer, nor a fault of the input, of
-- a stream or of the clock
abbrev pub IsPlain : Cause → Type 0
IsPlain Changed = ⊥
IsPlain Same = ⊥
IsPlain (Refused refusal) = ⊥
IsPlain (RefusedLine line refusal) = ⊥
IsPlain (Syntax fault) = ⊥
IsPlain (BatchSyntax line fault) = ⊥
IsPlain (BadSetting line) = ⊥
IsPlain (NoTable table) = ⊥
IsPlain (TooLarge Input) = ⊥
IsPlain (TooLarge (File (Table table))) = ⊥
IsPlain (TooLarge (File Defs)) = ⊥
IsPlain InputFault = ⊥
IsPlain (OutputFault stage) = ⊥
IsPlain ClockFault = ⊥
IsPlain cause = Unit {0}

-- so no tool decided it
pub plain-undecided : (cause : Cause) → IsPlain cause → IsDecided cause → ⊥
plain-undecided Changed plain decided = plain
plain-undecided Same plain decided = plain
plain-undecided (Refused refusal) plain decided = plain
plain-undecided (RefusedLine line refusal) plain decided = plain
plain-undecided (BadSetting line) plain decided = plain
plain-undecided (NoTable table) plain decided = plain
plain-undecided (TooLarge (File (Table table))) plain decided = plain
plain-undecided (TooLarge (File Defs)) plain decided = plain
plain-undecided cause plain decided = decided

-- it says what tells its cause
plain-says : (asked : Question) (answer : FinalAnswer) (cause : Cause) → IsPlain cause →
    answer ≡ given_for asked.request.tool cause → Says asked answer cause
plain-says asked answer (Held token) plain is = is
plain-says asked answer (Gone number) plain is = is
plain-says asked answer (Raced number) plain is = is
plain-says asked answer (Outrun number greater) plain is = is
plain-says asked answer (LockDamaged number) plain is = is
plain-says asked answer Exhausted plain is = is
plain-says asked answer (IntentDamaged part) plain is = is
plain-says asked answer (TooLarge (File name)) plain is = is
plain-says asked answer (DiskFault stage) plain is = is
plain-says asked answer (Memory stage) plain is = is
plain-says asked answer cause plain is = absurd plain

-- the session met the cause, and shows that it was outrun where that is the cause
abbrev pub IsMetAs : Runner → History → Cause → Type 0
IsMetAs runner history (Outrun number other) = ShowsOutrun runner number other history
IsMetAs runner history cause = HasMet runner.token history cause

-- and it is shown by what the session met
pub plain-shown : (runner : Runner) (answer : FinalAnswer) (history : History) (cause : Cause) →
    IsPlain cause → IsMetAs runner history cause → IsShown runner answer history cause
plain-shown runner answer history Changed plain met = absurd plain
plain-shown runner answer history Same plain met = absurd plain
plain-shown runner answer history (Refused refusal) plain met = absurd plain
plain-shown runner answer history (RefusedLine line refusal) plain met = absurd plain
plain-shown runner answer history (Syntax fault) plain met = absurd plain
plain-shown runner answer history (BatchSyntax line fault) plain met = absurd plain
plain-shown runner answer history (BadSetting line) plain met = absurd plain
plain-shown runner answer history (NoTable table) plain met = absurd plain
plain-shown runner answer history (TooLarge Input) plain met = absurd plain
plain-shown runner answer history (TooLarge (File (Table table))) plain met = absurd plain
plain-shown runner answer history (TooLarge (File Defs)) plain met = absurd plain
plain-shown runner answer history cause plain met = met

-- an answer that tells a plain cause has a plain one
pub told-plain : (asked : Question) (cause : Cause) (answer : FinalAnswer) → IsPlain cause →
    IsTold asked.request.tool cause answer → IsPlain answer.outcome.cause
told-plain asked cause answer plain told =
    elim (told-cause asked.request.tool cause answer told) [
      | inl is ↦ subst IsPlain (sym is) plain
      | inr is ↦ subst IsPlain (sym is) tt
    ]

-- what the session met of a cause it met of the answer that tells it
pub told-met : (runner : Runner) (cause : Cause) (answer : FinalAnswer)
    (history : History) → IsTold runner.asked.request.tool cause answer →
    IsMetAs runner history cause → IsMetAs runner history answer.outcome.cause
told-met runner cause answer history told met =
    elim (told-cause runner.asked.request.tool cause answer told) [
      | inl is ↦ subst (IsMetAs runner history) (sym is) met
      | inr is ↦ subst (IsMetAs runner history) (sym is) tt
    ]

-- and says what tells it
pub told-says : (asked : Question) (cause : Cause) (answer : FinalAnswer) → IsPlain cause →
    IsTold asked.request.tool cause answer → Says asked answer answer.outcome.cause
told-says asked cause answer plain (inl is) =
    subst (λ one. Says asked answer one)
    (sym (ap (λ (given : FinalAnswer). given.outcome.cause) is
    ∙ given-cause asked.request.tool cause))
    (plain-says asked answer cause plain is)
told-says asked cause answer plain (inr is) =
    subst (λ one. Says asked answer one)
    (sym (ap (λ (given : FinalAnswer). given.outcome.cause) is)) is

-- a state that answers with a cause tells of a fault of the folder where the cause is one
pub answers-fault : (tool : Tool) (cause : Cause) (state : State) → AnswersWith tool cause state →
    TellsOutside state → IsOutside cause
answers-fault tool cause (Answering answer) told fault = elim (told-cause tool cause answer told) [
  | inl is ↦ subst IsOutside is fault
  | inr is ↦ absurd (subst IsOutside is fault)
]
answers-fault tool cause state told fault = absurd told

-- one that leaves with a cause tells of a fault only where the cause is one
pub leaves-fault : (tool : Tool) (keeper : Kept) (cause : Cause) (state : State) →
    LeavesWith tool keeper cause state → TellsOutside state → IsOutside cause
leaves-fault tool keeper cause (Answering answer) is fault =
    absurd (subst IsOutside (ap (λ (given : FinalAnswer). given.outcome.cause) is) fault)
leaves-fault tool keeper cause (Unlocking kept answer) is fault = absurd fault
leaves-fault tool keeper cause state is fault = absurd is

-- a fault of the folder is told as plain
pub fault-plain : (stage : CommitStage) (fault : FolderFault) → IsPlain (cause_of_fault stage fault)
fault-plain stage Failed = tt
fault-plain stage NoMemory = tt

-- a fault of the folder is told with its stage
pub fault-stage : (stage : CommitStage) (fault : FolderFault) →
    stage_of (cause_of_fault stage fault) ≡ stage
fault-stage stage Failed = refl
fault-stage stage NoMemory = refl

-- it lies outside only where the folder failed
pub fault-failed : (stage : CommitStage) (fault : FolderFault) →
    IsOutside (cause_of_fault stage fault) → fault ≡ Failed
fault-failed stage Failed told = refl
fault-failed stage NoMemory told = absurd told
