use Rattle.std.proofs.Common.{refl, ap, subst, ◌∙◌, length, arith}
use Rattle.acct_text.specs.Bytes.{Bytes}
use Rattle.acct_outside.specs.declared.FolderFault.TheVariants.{Failed}
use Rattle.acct_outside.specs.declared.Name.TheVariants.{IntentStage}
use Rattle.acct_outside.specs.Calls.{appends}
use Rattle.intent_file.specs.Pieces.{intent_pieces}
use Rattle.suite_rules.specs.Outcomes.{LeadsTo, before_commit}
use Rattle.suite_rules.proofs.StepLemmas.{Called, called-of}
use Rattle.lock_steps.proofs.OutcomesLemmas.{counts}
use Rattle.recovery.proofs.LeadsLemmas.{takes-step}
use Rattle.commit_steps.specs.States.{Stager, append_intent, intended, intent_piece}
use Rattle.commit_steps.specs.Stands.{HasStagedIntent}
use Rattle.commit_steps.proofs.BackupLemmas.{stages_further, intent-after-append, may-append-intent}
use Rattle.commit_steps.proofs.committing.IntentStaged.append_intent.Goals as goal

pub append_on-requires : goal.append_on-requires
append_on-requires g c =
    let count = c.intent_pieces-count.ensures
    ∙ ap (λ (one : Stager). length (intent_pieces (intended one.change))) c.self.view_is in
    let some = c.requires.pieces in
    omega (arith, count, some)

pub returns : goal.returns
returns g c =
    let before = g.F.Folder.moment c.args.folder.now in
    let now = g.F.Folder.moment c.append-appended.new.self in
    let stager = c.args.self in
    let token = stager.change.inputs.keeper.token in
    let appended = c.append-appended.result in
    let called = c.append-appended.ensures in
    let piece = c.intent_piece-piece.ensures.value
    ∙ ap (λ (one : Stager). intent_piece one.staged one.change) c.self.view_is in
    let shown = subst (λ (one : Stager). LeadsTo one before_commit appended c.leads.result)
    c.append_on.ensures c.leads.ensures.shown in
    let tells = subst (λ (bytes : Bytes).
    Called before now token (appends IntentStage bytes) appended) piece
    (called-of before now _ token (appends IntentStage c.intent_piece-piece.result.now) appended
    (c.token.ensures ∙ ap (λ (one : Stager). one.change.inputs.keeper.token) c.self.view_is)
    (record { told = called.told; noted = called.noted })) in
    takes-step (stages_further stager) tt (HasStagedIntent stager) HasStagedIntent
    (append_intent stager) (intent-after-append stager c.requires.pieces) tt
    (λ result stood held. refl) (may-append-intent stager) before_commit before now called.narrows
    token appended c.leads.result shown c.requires.stands tells
    (counts (before_commit Failed) _ _ appended c.leads.result c.leads.ensures.failed called.faults)
