use Rattle.std.proofs.Common.{refl, sym, ap, subst, ◌∙◌, Err}
use Rattle.suite_rules.specs.Outcomes.{at_commit}
use Rattle.commit_steps.specs.States.{walk_of}
use Rattle.suite_session.specs.Locking.{cause_of_fault}
use Rattle.suite_session.proofs.CauseLemmas.{answers-fault}
use Rattle.suite_session.proofs.LeadsLemmas.{leads-on}
use Rattle.suite_session.proofs.CommittingTurns.{is-deed, commit-grew, commits-stands, unsure-stands, commit-ended, commit-failed}
use Rattle.suite_session.proofs.MeetingLemmas.{fault-ends, leads-done, quiet-on}
use Rattle.suite_session.proofs.LooksLemmas.{answers-less, few-less}
use Rattle.suite_session.proofs.OwnCallLemmas.{fault-met, makes-one, stays-told}
use Rattle.suite_session.proofs.StagingLemmas.{stopped-stages}
use Rattle.acct_outside.specs.declared.Name.TheVariants.{Intent, IntentStage}
use Rattle.acct_outside.specs.Calls.{Call, renames}
use Rattle.acct_outside.specs.declared.CommitStage.TheVariants.{Before}
use Rattle.commit_steps.specs.Stands.{HasStagedIntent}
use Rattle.commit_steps.proofs.NextLemmas.{commits-whole}
use Rattle.suite_session.specs.Stands.{FindsNoMemory, MakesOne, StagesTo}
use Rattle.suite_session.specs.declared.state.State.TheVariants.{Committing, Installing}
use Rattle.suite_session.proofs.CallsLemmas.{answers-fewer, committing-some}
use Rattle.suite_session.proofs.CommitCalls.{committed-calls}
use Rattle.suite_session.proofs.AskingLemmas.{asks-once}
use Rattle.suite_session.proofs.committing.commit_intent.Goals as goal

pub returns-in-Ok : goal.returns-in-Ok
returns-in-Ok g c = record {
  turns =
      let before = g.F.Folder.moment c.args.folder.now in
      let now = g.F.Folder.moment c.commit.new.folder in
      let done = leads-done (walk_of c.args.staged.change) at_commit _ c.in-Ok.installing
      c.in-Ok.ensures.call.shown in
      let meets = quiet-on (renames IntentStage Intent) (λ given one met shows. shows)
      c.in-Ok.ensures.call.answer done.0 (HasStagedIntent c.args.staged)
      (Installing c.in-Ok.installing c.args.answer) done.1 in
      record {
        turns = record {
          stands = commits-stands before now c.args.runner.now c.args.answer c.args.staged
              c.requires.stands _
              c.in-Ok.ensures.call c.commit.ensures.own c.in-Ok.installing
              (leads-on (walk_of c.args.staged.change) at_commit c.in-Ok.ensures.call.answer
              c.in-Ok.installing c.in-Ok.ensures.call.shown) c.in-Ok.ensures.next;
          grew = commit-grew before now c.args.runner.now c.args.answer c.args.staged
              c.requires.stands _
              c.in-Ok.ensures.call c.commit.ensures.own;
          lawful = λ deeds ours. c.commit.ensures.lawful deeds
              (is-deed before now c.args.runner.now c.args.answer c.args.staged
              c.requires.stands deeds
              ours);
          narrows = c.in-Ok.ensures.call.narrows;
          never_falls = c.commit.ensures.faults.never_falls;
          risen = λ fault. absurd fault;
        };
        makes_one = subst (λ (one : Call). MakesOne before.told now.told
            c.args.runner.now.token one ⊥)
            (sym (commits-whole c.args.staged c.requires.whole))
            (makes-one before now c.args.runner.now Before
            (HasStagedIntent c.args.staged) c.requires.stands.stands _ c.requires.stands.same
            (renames IntentStage Intent) tt _ c.in-Ok.ensures.call
            (Committing c.args.staged c.args.answer) (Installing c.in-Ok.installing c.args.answer)
            meets);
        asks = asks-once before now _ (renames IntentStage Intent) _ c.in-Ok.ensures.call
            (HasStagedIntent c.args.staged) (Committing c.args.staged c.args.answer)
            (Installing c.in-Ok.installing c.args.answer)
            (commits-whole c.args.staged c.requires.whole) meets;
        remembers = stays-told before now c.args.runner.now Before
            (HasStagedIntent c.args.staged) c.requires.stands.stands _ c.requires.stands.same
            (renames IntentStage Intent) tt _ c.in-Ok.ensures.call
            (Committing c.args.staged c.args.answer) (Installing c.in-Ok.installing c.args.answer)
            meets
            (λ met none. absurd none);
        stages = subst (λ (one : Call). StagesTo one
            (Installing c.in-Ok.installing c.args.answer))
            (sym (commits-whole c.args.staged c.requires.whole)) tt;
        looks = few-less (Committing c.args.staged c.args.answer)
            (Installing c.in-Ok.installing c.args.answer) tt refl;
      };
  counts =
      committed-calls c.args.staged c.in-Ok.installing c.args.answer
      (leads-on (walk_of c.args.staged.change) at_commit c.in-Ok.ensures.call.answer
      c.in-Ok.installing c.in-Ok.ensures.call.shown) c.requires.whole;
}

pub returns-in-Err : goal.returns-in-Err
returns-in-Err g c = record {
  turns =
      let before = g.F.Folder.moment c.args.folder.now in
      let now = g.F.Folder.moment c.commit.new.folder in
      let fault = c.in-Err.fault in
      let tool = c.args.runner.now.asked.request.tool in
      let is = commit-ended (walk_of c.args.staged.change) _ fault c.in-Err.ensures.call.shown in
      let meets = fault-ends tool fault.stage fault.fault c.given_up.result c.given_up.ensures
      (renames IntentStage Intent) c.in-Err.ensures.call.answer (HasStagedIntent c.args.staged) is
      in
      record {
        turns = record {
          stands = unsure-stands before now c.args.runner.now c.args.answer c.args.staged
              c.requires.stands
              _
              c.in-Err.ensures.call c.commit.ensures.own fault c.given_up.result c.given_up.ensures
              c.in-Err.ensures.unsure
              (fault-met before now c.args.runner.now Before
              (HasStagedIntent c.args.staged) c.requires.stands.stands _ c.requires.stands.same
              (renames IntentStage Intent) tt _ c.in-Err.ensures.call fault.stage fault.fault is);
          grew = commit-grew before now c.args.runner.now c.args.answer c.args.staged
              c.requires.stands _
              c.in-Err.ensures.call c.commit.ensures.own;
          lawful = λ deeds ours. c.commit.ensures.lawful deeds
              (is-deed before now c.args.runner.now c.args.answer c.args.staged
              c.requires.stands deeds
              ours);
          narrows = c.in-Err.ensures.call.narrows;
          never_falls = c.commit.ensures.faults.never_falls;
          risen = λ told. c.commit.ensures.faults.failed (c.in-Err.is
              ∙ ap Err (commit-failed (walk_of c.args.staged.change)
              c.in-Err.ensures.call.answer fault
              c.in-Err.ensures.call.shown (answers-fault tool
              (cause_of_fault fault.stage fault.fault) c.given_up.result c.given_up.ensures told)));
        };
        makes_one = subst (λ (one : Call). MakesOne before.told now.told c.args.runner.now.token one
            (FindsNoMemory c.given_up.result))
            (sym (commits-whole c.args.staged c.requires.whole))
            (makes-one before now c.args.runner.now Before
            (HasStagedIntent c.args.staged) c.requires.stands.stands _ c.requires.stands.same
            (renames IntentStage Intent) tt _ c.in-Err.ensures.call
            (Committing c.args.staged c.args.answer) c.given_up.result meets);
        asks = asks-once before now _ (renames IntentStage Intent) _ c.in-Err.ensures.call
            (HasStagedIntent c.args.staged) (Committing c.args.staged c.args.answer)
            c.given_up.result (commits-whole c.args.staged c.requires.whole) meets;
        remembers = stays-told before now c.args.runner.now Before
            (HasStagedIntent c.args.staged) c.requires.stands.stands _ c.requires.stands.same
            (renames IntentStage Intent) tt _ c.in-Err.ensures.call
            (Committing c.args.staged c.args.answer) c.given_up.result meets
            (λ met none. absurd none);
        stages = stopped-stages tool fault.stage fault.fault c.given_up.result c.given_up.ensures _;
        looks = answers-less tool (cause_of_fault fault.stage fault.fault)
            (Committing c.args.staged c.args.answer) c.given_up.result c.given_up.ensures;
      };
  counts =
      answers-fewer _ _ c.given_up.result c.given_up.ensures _
      (committing-some c.args.staged c.args.answer) c.requires.whole;
}
