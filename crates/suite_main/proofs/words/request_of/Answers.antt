use Rattle.suite_main.proofs.HelpWords.{no-plans, no-rehearsal}
use Rattle.suite_main.proofs.words.request_of.Goals as goal

-- the words of a tool's text begin no rehearsal
pub returns-in-Some-clause-rehearsal : goal.returns-in-Some-clause-rehearsal
returns-in-Some-clause-rehearsal c = (
  λ is. absurd (cc is),
  λ begins. absurd (no-rehearsal c.args.words.now c.in-Some.tool
      ((c.asked_about.ensures c.in-Some.tool).0 c.in-Some.is) begins),
)

-- nor do they ask about plans
pub returns-in-Some-clause-plan_help : goal.returns-in-Some-clause-plan_help
returns-in-Some-clause-plan_help c = (
  λ is. absurd (cc is),
  λ plans. absurd (no-plans c.args.words.now c.in-Some.tool
      ((c.asked_about.ensures c.in-Some.tool).0 c.in-Some.is) plans),
)
