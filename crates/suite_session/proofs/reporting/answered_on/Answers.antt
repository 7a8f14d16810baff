use Rattle.std.proofs.Common.{◌≡◌, sym, subst, ◌∙◌, Option, Some, None, option_map}
use Rattle.account_model.specs.Answer.{FileProblem}
use Rattle.lock_steps.specs.Gathered.{Gathered}
use Rattle.suite_answers.specs.declared.cause.Cause.{Cause}
use Rattle.suite_session.specs.declared.state.State.{State}
use Rattle.suite_session.specs.Answers.{cause_of_problem}
use Rattle.suite_session.specs.Reporting.{AnswersFiles, first_problem}
use Rattle.suite_session.specs.Runner.{Runner}
use Rattle.suite_session.specs.Stands.{AnswersWith}
use Rattle.suite_session.proofs.reporting.answered_on.Goals as goal

-- the answer with a problem's cause is that to the problem
problem-answers : (runner : Runner) (gathered : Gathered) (problem : Option FileProblem)
    (cause : Cause) (state : State) → option_map cause_of_problem problem ≡ Some cause →
    AnswersWith runner.asked.request.tool cause state → AnswersFiles runner gathered problem state
problem-answers runner gathered None cause state is answers = absurd (cc)
problem-answers runner gathered (Some problem) cause state is answers =
    let same : cause_of_problem problem ≡ cause = cc in
    subst (λ (one : Cause). AnswersWith runner.asked.request.tool one state) (sym same) answers

pub returns-in-Some : goal.returns-in-Some
returns-in-Some g c =
    problem-answers c.args.runner.now c.args.shown.now.gathered
    (first_problem c.args.shown.now.gathered) c.in-Some.cause c.told.result
    (sym c.first_problem.ensures ∙ c.in-Some.is) c.told.ensures
