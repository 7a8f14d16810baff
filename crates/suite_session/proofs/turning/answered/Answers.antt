use Rattle.std.proofs.Common.{refl, subst, Ok}
use Rattle.acct_outside.specs.Calls.{answers}
use Rattle.acct_outside.specs.Contract.{Tells}
use Rattle.suite_session.specs.Runner.{IsRead, Runner}
use Rattle.suite_session.proofs.SessionTurns.{answer-one, answers-turn}
use Rattle.suite_session.proofs.StreamLemmas.{left-given}
use Rattle.acct_outside.specs.Journal.{was_done}
use Rattle.suite_session.proofs.turning.answered.Goals as goal

pub returns-clause-turns : goal.returns-clause-turns
returns-clause-turns g c =
    let before = g.F.Folder.moment c.args.folder.now in
    let now = g.F.Folder.moment c.answered.new.self in (
      refl,
      refl,
      answers-turn before now c.args.runner c.args.answer
          (subst (λ (one : Runner). IsRead one.asked)
          c.runner.view_is c.asks_once.ensures)
          c.requires
          (subst (λ (one : Runner). Tells before now one.token
          (answers c.args.answer.outcome.status) (Ok tt)) c.runner.view_is c.answered.ensures.told)
          c.answered.ensures.narrows c.answered.ensures.faults.never_falls,
      answer-one before now c.args.runner c.args.answer.outcome.status
          (left-given before c.args.runner c.args.answer c.requires).may.may_answer
          (subst (λ (one : Runner). Tells before now one.token
          (answers c.args.answer.outcome.status) (Ok tt)) c.runner.view_is c.answered.ensures.told),
      record {
        reply = was_done;
        noted = c.answered.ensures.noted;
        refused = λ is. absurd (cc is);
      },
    )
