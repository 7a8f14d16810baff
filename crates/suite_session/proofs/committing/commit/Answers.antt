use Rattle.std.proofs.Common.{refl, sym, ap, ◌∙◌, Err}
use Rattle.acct_outside.specs.declared.CommitStage.TheVariants.{Before}
use Rattle.acct_outside.specs.declared.Name.TheVariants.{IntentStage}
use Rattle.acct_outside.specs.Calls.{appends}
use Rattle.suite_rules.specs.Outcomes.{before_commit}
use Rattle.commit_steps.specs.States.{Stager, append_intent, intent_piece}
use Rattle.commit_steps.specs.Stands.{HasStagedIntent}
use Rattle.commit_steps.proofs.NextLemmas.{commits-on}
use Rattle.suite_session.specs.declared.state.State.TheVariants.{Committing}
use Rattle.suite_session.proofs.LooksLemmas.{few-less}
use Rattle.suite_session.proofs.TurnLemmas.{goes-on, leads-turns, leads-faults}
use Rattle.suite_session.proofs.LeadsLemmas.{leads-on}
use Rattle.suite_session.proofs.CommittingTurns.{changes-to}
use Rattle.suite_session.proofs.CallsLemmas.{answers-append, committing-some, some-left}
use Rattle.suite_session.proofs.CommitCalls.{committing-appends, staged-more}
use Rattle.suite_session.proofs.DueTextLemmas.{intent-more-due}
use Rattle.suite_session.proofs.committing.commit.Goals as goal

pub commit_intent-requires : goal.commit_intent-requires
commit_intent-requires g c =
    record { whole = sym c.pieces.ensures ∙ c.if-pieces-eq0.true; stands = c.requires }

pub append_intent-requires-clause-pieces : goal.append_intent-requires-clause-pieces
append_intent-requires-clause-pieces g c = some-left _ _ c.pieces.ensures c.if-pieces-eq0.false

pub returns-in-Ok : goal.returns-in-Ok
returns-in-Ok g c = record {
  turns =
      let before = g.F.Folder.moment c.args.folder.now in
      let now = g.F.Folder.moment c.append_intent.new.folder in
      let stager = c.args.staged in
      let some = some-left _ _ c.pieces.ensures c.if-pieces-eq0.false in
      let call = appends IntentStage (intent_piece stager.staged stager.change) in
      let due = intent-more-due c.args.runner.now c.args.answer stager c.requires.of_change some in
      let is = leads-on (append_intent stager) before_commit _ c.in-Ok.staged
      c.in-Ok.ensures.call.shown in
      leads-turns before now c.args.runner.now Before (HasStagedIntent stager) c.requires.stands
      stager.change.inputs.keeper.token c.requires.same call due _ (λ result stood. refl)
      c.in-Ok.ensures.call
      (append_intent stager) before_commit c.in-Ok.staged c.in-Ok.ensures.call.shown
      (λ given one met shows. shows)
      c.append_intent.ensures.lawful c.append_intent.ensures.faults.never_falls
      (Committing stager c.args.answer) (Committing c.in-Ok.staged c.args.answer)
      (commits-on stager some)
      (λ met none. absurd none)
      (changes-to before now c.args.runner.now c.args.answer stager.change (HasStagedIntent stager)
      c.requires c.in-Ok.staged.change (HasStagedIntent c.in-Ok.staged)
      (ap (λ (one : Stager). one.change) is)
      (goes-on before now c.args.runner.now Before (HasStagedIntent stager) c.requires.stands
      stager.change.inputs.keeper.token c.requires.same call due _ (λ result stood. refl)
      c.in-Ok.ensures.call (HasStagedIntent c.in-Ok.staged) c.in-Ok.ensures.next))
      (λ fault. fault) refl
      (few-less (Committing stager c.args.answer) (Committing c.in-Ok.staged c.args.answer) tt refl);
  counts =
      let stager = c.args.staged in
      let some = some-left _ _ c.pieces.ensures c.if-pieces-eq0.false in
      staged-more stager c.in-Ok.staged c.args.answer
      (leads-on (append_intent stager) before_commit _ c.in-Ok.staged c.in-Ok.ensures.call.shown)
      some;
}

pub returns-in-Err : goal.returns-in-Err
returns-in-Err g c = record {
  turns =
      let before = g.F.Folder.moment c.args.folder.now in
      let now = g.F.Folder.moment c.append_intent.new.folder in
      let stager = c.args.staged in
      let some = some-left _ _ c.pieces.ensures c.if-pieces-eq0.false in
      let call = appends IntentStage (intent_piece stager.staged stager.change) in
      let due = intent-more-due c.args.runner.now c.args.answer stager c.requires.of_change some in
      leads-faults before now c.args.runner.now Before (HasStagedIntent stager) c.requires.stands
      stager.change.inputs.keeper.token c.requires.same call due _ (λ result stood. refl)
      c.in-Err.ensures.call
      (append_intent stager) c.in-Err.fault c.in-Err.ensures.call.shown
      c.append_intent.ensures.lawful c.append_intent.ensures.faults.never_falls
      (Committing stager c.args.answer) c.given_up.result (commits-on stager some)
      (λ met none. absurd none)
      c.given_up.ensures (λ is. c.append_intent.ensures.faults.failed (c.in-Err.is ∙ ap Err is));
  counts =
      let stager = c.args.staged in
      let some = some-left _ _ c.pieces.ensures c.if-pieces-eq0.false in
      answers-append _ _ c.given_up.result c.given_up.ensures (Committing stager c.args.answer)
      (committing-some stager c.args.answer) some (committing-appends stager c.args.answer some);
}
