use Rattle.std.proofs.Common.{refl, ap, subst, ◌∙◌}
use Rattle.acct_outside.specs.declared.Name.TheVariants.{IntentStage}
use Rattle.acct_text.specs.Bytes.{Bytes}
use Rattle.acct_outside.specs.Calls.{writes}
use Rattle.intent_file.specs.Intent.{ReadsIntent, intent_text}
use Rattle.acct_outside.specs.declared.FolderFault.TheVariants.{Failed}
use Rattle.suite_rules.specs.Outcomes.{before_commit}
use Rattle.suite_rules.proofs.StepLemmas.{Called, called-of}
use Rattle.lock_steps.proofs.OutcomesLemmas.{counts}
use Rattle.recovery.proofs.LeadsLemmas.{acts-as, takes-step}
use Rattle.commit_steps.specs.declared.walking.Walked.{Walked}
use Rattle.commit_steps.specs.declared.walking.Walked.TheVariants.{Done}
use Rattle.commit_steps.specs.States.{Change, Stager, Walker, intended, intent_piece, begun_of}
use Rattle.commit_steps.specs.Stands.{BacksUp, HasStagedIntent}
use Rattle.commit_steps.specs.Walks.{HoldsWalked, token_of}
use Rattle.commit_steps.proofs.BackupLemmas.{stages_intent, intent-after-write, may-stage-intent}
use Rattle.commit_steps.proofs.NextLemmas.{backs-none}
use Rattle.commit_steps.proofs.WalksLemmas.{leads-as, walked-end, walks-on}
use Rattle.commit_steps.proofs.backing.Backing.stage_intent.Goals as goal

pub write-written-requires-clause-acts : goal.write-written-requires-clause-acts
write-written-requires-clause-acts g c =
    let change = c.into_prepared-prepared.ensures
    ∙ ap (λ (walker : Walker). walker.change) c.self.view_is in
    acts-as (BacksUp c.args.self) (g.F.Folder.moment c.args.folder.now) _ (token_of c.args.self)
    (c.token.ensures ∙ ap (λ (change : Change). change.inputs.keeper.token) change)
    c.requires.stands

pub returns : goal.returns
returns g c =
    let before = g.F.Folder.moment c.args.folder.now in
    let now = g.F.Folder.moment c.write-written.new.self in
    let walker = c.args.self in
    let written = c.write-written.result in
    let narrows = c.write-written.ensures.narrows in
    let change = c.into_prepared-prepared.ensures
    ∙ ap (λ (walker : Walker). walker.change) c.self.view_is in
    let piece = c.intent_piece-piece.ensures.value
    ∙ ap (λ (change : Change). intent_piece 0 change) change in
    let reads_it = subst (λ (change : Change).
    ReadsIntent (intent_text (intended change)) (intended change)) change
    c.intent_piece-piece.ensures.reads in
    let on : Walked Walker Stager = Done (begun_of walker.change) in
    let shown = leads-as before_commit written c.leads.result
    (c.of.ensures ∙ ap begun_of change) Done c.leads.ensures.shown in
    let tells = subst (λ (bytes : Bytes).
    Called before now (token_of walker) (writes IntentStage bytes) written) piece
    (called-of before now _ (token_of walker)
    (writes IntentStage c.intent_piece-piece.result.now) written
    (c.token.ensures ∙ ap (λ (change : Change). change.inputs.keeper.token) change)
    (record { told = c.write-written.ensures.told; noted = c.write-written.ensures.noted })) in
    walks-on (stages_intent walker) _ on _ before_commit BacksUp HasStagedIntent walker before now
    c.leads.result (backs-none walker c.requires.left)
    (walked-end walker _ (begun_of walker.change) c.requires.left)
    (takes-step (stages_intent walker) tt (BacksUp walker) (HoldsWalked BacksUp HasStagedIntent) on
    (intent-after-write walker reads_it c.requires.left) tt
    (λ result stood held. refl) (may-stage-intent walker)
    before_commit before now narrows (token_of walker) written c.leads.result shown
    c.requires.stands tells
    (counts (before_commit Failed) _ _ written c.leads.result c.leads.ensures.failed
    c.write-written.ensures.faults))
