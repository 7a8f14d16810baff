use Rattle.std.proofs.Common.{◌≡◌, ◌<◌, arith, refl, ap, subst, ◌∙◌, ℕ}
use Rattle.acct_text.specs.Bytes.{Bytes}
use Rattle.acct_outside.specs.declared.FolderFault.TheVariants.{Failed}
use Rattle.acct_outside.specs.declared.Name.TheVariants.{BackupStage}
use Rattle.acct_outside.specs.Pieces.{piece_at}
use Rattle.acct_outside.specs.Calls.{appends}
use Rattle.suite_rules.specs.Outcomes.{before_commit}
use Rattle.suite_rules.proofs.StepLemmas.{Called, called-of}
use Rattle.lock_steps.proofs.OutcomesLemmas.{counts}
use Rattle.recovery.proofs.LeadsLemmas.{takes-step}
use Rattle.commit_steps.specs.declared.walking.Walked.{Walked}
use Rattle.commit_steps.specs.declared.walking.Walked.TheVariants.{More}
use Rattle.commit_steps.specs.States.{Change, Stager, Walker, append_on, backup_pieces, begun_of, next_table, old_bytes, steps_left}
use Rattle.commit_steps.specs.Stands.{BacksUp, HasStagedIntent}
use Rattle.commit_steps.specs.Outcomes.{backs_up_more}
use Rattle.commit_steps.specs.Walks.{HoldsWalked, token_of}
use Rattle.commit_steps.proofs.BackupLemmas.{begun-backup, backs-after-append, may-append-backup}
use Rattle.commit_steps.proofs.NextLemmas.{backs-on}
use Rattle.commit_steps.proofs.TablesLemmas.{which}
use Rattle.commit_steps.proofs.WalksLemmas.{leads-as, walked-more, walks-on}
use Rattle.commit_steps.proofs.backing.Backing.go_on.Goals as goal

pub returns : goal.returns
returns g c =
    let before = g.F.Folder.moment c.args.folder.now in
    let now = g.F.Folder.moment c.append-appended.new.self in
    let walker = c.args.self in
    let steps = c.left.ensures in
    let left = c.pieces.ensures in
    let more : 0 < steps_left walker = omega (arith, steps, c.if-left-eq0.false) in
    let some : 0 < backup_pieces walker = omega (arith, left, c.if-pieces-eq0.false) in
    let appended = c.append-appended.result in
    let called = c.append-appended.ensures in
    let there = which (next_table walker)
    (λ next. c.old-old.result.now ≡ old_bytes walker.change next.table) c.old-old.ensures in
    let next = there.0 in
    let piece = c.piece_at-piece.ensures
    ∙ (ap (λ (old : Bytes). piece_at c.staged.result old) there.2
    ∙ ap (λ (place : ℕ). piece_at place (old_bytes walker.change next.table))
    (c.staged.ensures ∙ ap (λ (one : Walker). one.staged) c.self.view_is)) in
    let begun = begun-backup walker next there.1 some in
    let on : Walked Walker Stager = More (append_on walker) in
    let shown = leads-as before_commit appended c.leads.result
    (c.append_on-walking.ensures ∙ ap (λ (one : Walker). append_on one) c.self.view_is) More
    c.leads.ensures.shown in
    let tells = subst (λ (bytes : Bytes).
    Called before now (token_of walker) (appends BackupStage bytes) appended) piece
    (called-of before now _ (token_of walker) (appends BackupStage c.piece_at-piece.result.now)
    appended (c.token-token.ensures ∙ ap (λ (change : Change). change.inputs.keeper.token)
    (c.prepared.ensures ∙ ap (λ (one : Walker). one.change) c.self.view_is))
    (record { told = called.told; noted = called.noted })) in
    walks-on (backs_up_more walker next) _ on _ before_commit BacksUp HasStagedIntent walker
    before now c.leads.result (backs-on walker next there.1 some)
    (walked-more walker _ (begun_of walker.change) more some)
    (takes-step (backs_up_more walker next) tt (BacksUp walker)
    (HoldsWalked BacksUp HasStagedIntent) on
    (backs-after-append walker next there.1 begun) tt (λ result stood held. refl)
    (may-append-backup walker next there.1 begun) before_commit before now called.narrows
    (token_of walker) appended c.leads.result shown c.requires tells
    (counts (before_commit Failed) _ _ appended c.leads.result c.leads.ensures.failed
    called.faults))
