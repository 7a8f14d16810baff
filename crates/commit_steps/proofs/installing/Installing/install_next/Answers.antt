use Rattle.std.proofs.Common.{◌≡◌, inl, inr, refl, sym, ap, subst, ◌∙◌, slice_get, Some}
use Rattle.std.proofs.lemmas.Bool.{cases_Bool}
use Rattle.acct_outside.specs.declared.FolderFault.TheVariants.{Failed}
use Rattle.suite_rules.specs.Outcomes.{after_commit, installs, stages}
use Rattle.suite_rules.proofs.StepLemmas.{called-of}
use Rattle.lock_steps.proofs.OutcomesLemmas.{counts}
use Rattle.recovery.proofs.CarryLemmas.{may-move, may-stage}
use Rattle.recovery.proofs.LeadsLemmas.{takes-step}
use Rattle.lock_steps.specs.States.{Kept}
use Rattle.commit_steps.specs.declared.walking.Walked.{Walked}
use Rattle.commit_steps.specs.declared.walking.Walked.TheVariants.{More}
use Rattle.commit_steps.specs.States.{Change, Walker, changed, has_staged, intended, step_on, tables_left}
use Rattle.commit_steps.specs.Stands.{HasCleared, Installs}
use Rattle.commit_steps.specs.Walks.{HoldsWalked, InstallsOn, token_of}
use Rattle.commit_steps.proofs.InstallNextLemmas.{installs-some}
use Rattle.commit_steps.proofs.WalksLemmas.{leads-as, walked-step, walks-on}
use Rattle.commit_steps.proofs.InstallLemmas.{first-left, install-staged, install-unstaged, installs-after-move, installs-after-write, pieces-are, staged-some}
use Rattle.commit_steps.proofs.installing.Installing.install_next.Goals as goal

pub returns : goal.returns
returns g c =
    let before = g.F.Folder.moment c.args.folder.now in
    let now = g.F.Folder.moment c.install-called.new.folder in
    let walker = c.args.self in
    let next = c.next.result.now in
    let called = c.install-called.result in
    let token = c.token-token.ensures
    ∙ ap (λ (change : Change). change.inputs.keeper.token)
    (c.prepared.ensures ∙ ap (λ (walker : Walker). walker.change) c.self.view_is) in
    let is_next = subst (λ (walker : Walker).
    slice_get (changed walker.change) walker.place ≡ Some next)
    c.self.view_is c.next.ensures.is_next in
    let is_staged = c.has_staged-is_staged.ensures
    ∙ ap (λ (walker : Walker). has_staged walker) c.self.view_is in
    let whole = sym (pieces-are walker next is_next) ∙ c.requires.whole in
    let on : Walked Walker Kept = More (step_on walker) in
    let shown = leads-as after_commit called c.leads.result
    (c.step_on-walking.ensures ∙ ap (λ (one : Walker). step_on one) c.self.view_is) More
    c.leads.ensures.shown in
    let steps = walked-step walker _ walker.change.inputs.keeper c.requires.left c.requires.whole in
    let calls = installs-some walker next is_next c.requires.whole in
    elim (cases_Bool (has_staged walker)) as (λ either.
    InstallsOn walker before now c.leads.result) [
      | inl staged ↦
          let came = c.install-called.ensures.moved (is_staged ∙ staged) in
          walks-on (installs next) _ on _ after_commit Installs HasCleared walker before now
          c.leads.result (calls ∙ install-staged walker next staged) steps
          (takes-step (installs next) tt (Installs walker) (HoldsWalked Installs HasCleared) on
          (installs-after-move walker next is_next staged) tt (λ result stood held. refl)
          (λ deeds stood held. may-move (intended walker.change) walker.change.inputs.keeper
          (tables_left walker) stood held.carries next (first-left walker next is_next) deeds
          walker.staged (staged-some walker staged) whole (held.staged staged))
          after_commit before now came.narrows (token_of walker) called c.leads.result shown
          c.requires.stands
          (called-of before now _ (token_of walker) (installs next) called token
          (record { told = came.told; noted = came.noted }))
          (counts (after_commit Failed) _ _ called c.leads.result c.leads.ensures.failed
          came.faults))
      | inr unstaged ↦
          let came = c.install-called.ensures.staged (is_staged ∙ unstaged) in
          walks-on (stages next) _ on _ after_commit Installs HasCleared walker before now
          c.leads.result (calls ∙ install-unstaged walker next unstaged) steps
          (takes-step (stages next) tt (Installs walker) (HoldsWalked Installs HasCleared) on
          (installs-after-write walker next is_next unstaged) tt (λ result stood held. refl)
          (λ deeds stood held. may-stage (intended walker.change) walker.change.inputs.keeper
          (tables_left walker) stood held.carries next (first-left walker next is_next) deeds)
          after_commit before now came.narrows (token_of walker) called c.leads.result shown
          c.requires.stands
          (called-of before now _ (token_of walker) (stages next) called token
          (record { told = came.told; noted = came.noted }))
          (counts (after_commit Failed) _ _ called c.leads.result c.leads.ensures.failed
          came.faults))
    ]
