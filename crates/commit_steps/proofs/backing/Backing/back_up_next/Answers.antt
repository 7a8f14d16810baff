use Rattle.std.proofs.Common.{◌≡◌, inl, inr, refl, ap, subst, ◌∙◌, slice_get, Some}
use Rattle.std.proofs.lemmas.Bool.{cases_Bool}
use Rattle.std.specs.Prelude.{IsSome}
use Rattle.acct_outside.specs.declared.FolderFault.TheVariants.{Failed}
use Rattle.acct_outside.specs.declared.Name.TheVariants.{BackupStage}
use Rattle.acct_outside.specs.Pieces.{piece_at}
use Rattle.acct_outside.specs.Calls.{writes}
use Rattle.suite_rules.specs.Outcomes.{before_commit}
use Rattle.suite_rules.proofs.StepLemmas.{Called, called-of}
use Rattle.lock_steps.proofs.OutcomesLemmas.{counts}
use Rattle.recovery.proofs.LeadsLemmas.{takes-step}
use Rattle.commit_steps.specs.declared.walking.Walked.{Walked}
use Rattle.commit_steps.specs.declared.walking.Walked.TheVariants.{More}
use Rattle.commit_steps.specs.States.{Change, Stager, Walker, begun_of, changed, has_staged, old_bytes, old_files, step_on}
use Rattle.commit_steps.specs.Stands.{BacksUp, HasStagedIntent}
use Rattle.commit_steps.specs.Walks.{BacksOn, HoldsWalked, token_of}
use Rattle.commit_steps.proofs.NextLemmas.{backs-some}
use Rattle.commit_steps.proofs.WalksLemmas.{leads-as, walked-step, walks-on}
use Rattle.commit_steps.proofs.BackupLemmas.{moves_backup_of, stages_backup, backup-staged, backup-unstaged, backs-after-move, backs-after-write, may-move-backup, may-stage-backup}
use Rattle.commit_steps.proofs.backing.Backing.back_up_next.Goals as goal

pub returns : goal.returns
returns g c =
    let before = g.F.Folder.moment c.args.folder.now in
    let now = g.F.Folder.moment c.back_up-called.new.folder in
    let walker = c.args.self in
    let next = c.next.result.now in
    let called = c.back_up-called.result in
    let change = c.prepared.ensures ∙ ap (λ (walker : Walker). walker.change) c.self.view_is in
    let token = ap (λ (change : Change). change.inputs.keeper.token) change in
    let is_next = subst (λ (walker : Walker).
    slice_get (changed walker.change) walker.place ≡ Some next)
    c.self.view_is c.next.ensures.is_next in
    let stands = subst (λ (walker : Walker). IsSome (old_files walker.change next.table))
    c.self.view_is c.next.ensures.stands in
    let is_staged = c.has_staged-is_staged.ensures
    ∙ ap (λ (walker : Walker). has_staged walker) c.self.view_is in
    let whole = c.requires.whole in
    let on : Walked Walker Stager = More (step_on walker) in
    let shown = leads-as before_commit called c.leads.result
    (c.step_on-walking.ensures ∙ ap (λ (one : Walker). step_on one) c.self.view_is) More
    c.leads.ensures.shown in
    let steps = walked-step walker _ (begun_of walker.change) c.requires.left whole in
    let calls = backs-some walker next is_next whole in
    elim (cases_Bool (has_staged walker)) as (λ either.
    BacksOn walker before now c.leads.result) [
      | inl staged ↦
          let came = c.back_up-called.ensures.moved (is_staged ∙ staged) in
          walks-on (moves_backup_of next) _ on _ before_commit BacksUp HasStagedIntent walker before
          now c.leads.result (calls ∙ backup-staged walker next staged) steps
          (takes-step (moves_backup_of next) tt (BacksUp walker)
          (HoldsWalked BacksUp HasStagedIntent) on
          (λ answer stood held.
          backs-after-move walker next is_next stands staged whole stood held answer)
          tt (λ result stood held. refl)
          (λ deeds stood held.
          may-move-backup walker next is_next stands staged whole stood held deeds)
          before_commit before now came.narrows (token_of walker) called c.leads.result shown
          c.requires.stands
          (called-of before now _ (token_of walker) (moves_backup_of next) called token
          (record { told = came.told; noted = came.noted }))
          (counts (before_commit Failed) _ _ called c.leads.result c.leads.ensures.failed
          came.faults))
      | inr unstaged ↦
          let came = c.back_up-called.ensures.staged (is_staged ∙ unstaged) in
          walks-on (stages_backup walker next) _ on _ before_commit BacksUp HasStagedIntent walker
          before now c.leads.result (calls ∙ backup-unstaged walker next unstaged) steps
          (takes-step (stages_backup walker next) tt (BacksUp walker)
          (HoldsWalked BacksUp HasStagedIntent) on
          (backs-after-write walker next is_next unstaged) tt (λ result stood held. refl)
          (may-stage-backup walker next is_next) before_commit before now came.narrows
          (token_of walker) called c.leads.result shown c.requires.stands
          (subst (λ (change : Change). Called before now (token_of walker)
          (writes BackupStage (piece_at 0 (old_bytes change next.table))) called) change
          (called-of before now _ (token_of walker)
          (writes BackupStage (piece_at 0 (old_bytes c.prepared.result.now next.table))) called
          token (record { told = came.told; noted = came.noted })))
          (counts (before_commit Failed) _ _ called c.leads.result c.leads.ensures.failed
          came.faults))
    ]
