use Rattle.std.proofs.Common.{refl, ap, ◌∙◌}
use Rattle.acct_outside.specs.declared.Name.TheVariants.{Intent}
use Rattle.acct_outside.specs.declared.FolderFault.TheVariants.{Failed}
use Rattle.acct_outside.specs.Calls.{removes}
use Rattle.suite_rules.specs.Outcomes.{after_commit}
use Rattle.suite_rules.proofs.StepLemmas.{called-of}
use Rattle.lock_steps.specs.States.{Kept}
use Rattle.lock_steps.proofs.OutcomesLemmas.{counts}
use Rattle.recovery.proofs.CarryLemmas.{may-remove}
use Rattle.recovery.proofs.LeadsLemmas.{acts-as, takes-step}
use Rattle.commit_steps.specs.declared.walking.Walked.{Walked}
use Rattle.commit_steps.specs.declared.walking.Walked.TheVariants.{Done}
use Rattle.commit_steps.specs.States.{Inputs, Change, Walker, intended, tables_left}
use Rattle.commit_steps.specs.Stands.{Installs, HasCleared}
use Rattle.commit_steps.specs.Walks.{HoldsWalked, token_of}
use Rattle.commit_steps.proofs.InstallLemmas.{cleared-after-removal, none-installs}
use Rattle.commit_steps.proofs.InstallNextLemmas.{installs-none}
use Rattle.commit_steps.proofs.WalksLemmas.{leads-as, walked-end, walks-on}
use Rattle.commit_steps.proofs.installing.Installing.clear.Goals as goal

pub remove_intent-removed-requires : goal.remove_intent-removed-requires
remove_intent-removed-requires g c =
    let keeper = ap (λ (inputs : Inputs). inputs.keeper) (c.into_loaded-loaded.ensures
    ∙ ap (λ (change : Change). change.inputs) (c.into_prepared.ensures
    ∙ ap (λ (walker : Walker). walker.change) c.self.view_is)) in
    let token = c.token.ensures ∙ ap (λ (kept : Kept). kept.token) (c.keeper.ensures ∙ keeper) in
    acts-as (Installs c.args.self) (g.F.Folder.moment c.args.folder.now) _ (token_of c.args.self)
    token c.requires.stands

pub returns : goal.returns
returns g c =
    let before = g.F.Folder.moment c.args.folder.now in
    let now = g.F.Folder.moment c.remove_intent-removed.new.folder in
    let walker = c.args.self in
    let removed = c.remove_intent-removed.result in
    let called = c.remove_intent-removed.ensures in
    let keeper = ap (λ (inputs : Inputs). inputs.keeper) (c.into_loaded-loaded.ensures
    ∙ ap (λ (change : Change). change.inputs) (c.into_prepared.ensures
    ∙ ap (λ (walker : Walker). walker.change) c.self.view_is)) in
    let token = c.token.ensures ∙ ap (λ (kept : Kept). kept.token) (c.keeper.ensures ∙ keeper) in
    let on : Walked Walker Kept = Done walker.change.inputs.keeper in
    let shown = leads-as after_commit removed c.leads.result (c.release.ensures ∙ keeper) Done
    c.leads.ensures.shown in
    let tells = called-of before now _ (token_of walker) (removes Intent) removed token
    (record { told = called.told; noted = called.noted }) in
    walks-on (removes Intent) _ on _ after_commit Installs HasCleared walker before now
    c.leads.result (installs-none walker c.requires.left)
    (walked-end walker _ walker.change.inputs.keeper c.requires.left)
    (takes-step (removes Intent) tt (Installs walker) (HoldsWalked Installs HasCleared) on
    (λ answer stood held. cleared-after-removal walker stood held answer) tt
    (λ result stood held. refl)
    (λ deeds stood held. may-remove (intended walker.change) walker.change.inputs.keeper
    (tables_left walker) stood held.carries deeds
    (none-installs walker stood held c.requires.left))
    after_commit before now called.narrows (token_of walker) removed c.leads.result shown
    c.requires.stands tells
    (counts (after_commit Failed) _ _ removed c.leads.result c.leads.ensures.failed
    called.faults))
