use Rattle.std.proofs.Common.{◌≡◌, ◌<◌, ℕ, arith, refl, ap, subst, ◌∙◌, slice_get, Some}
use Rattle.acct_outside.specs.declared.FolderFault.TheVariants.{Failed}
use Rattle.acct_outside.specs.Pieces.{piece_count}
use Rattle.suite_rules.specs.Outcomes.{after_commit, stages_more}
use Rattle.suite_rules.proofs.StepLemmas.{Called, called-of}
use Rattle.lock_steps.proofs.OutcomesLemmas.{counts}
use Rattle.recovery.proofs.CarryLemmas.{left-of, may-append}
use Rattle.recovery.proofs.LeadsLemmas.{takes-step}
use Rattle.lock_steps.specs.States.{Kept}
use Rattle.commit_steps.specs.declared.walking.Walked.{Walked}
use Rattle.commit_steps.specs.declared.walking.Walked.TheVariants.{More}
use Rattle.commit_steps.specs.States.{Change, Walker, append_on, changed, has_staged, install_pieces, intended, steps_left, tables_left}
use Rattle.commit_steps.specs.Stands.{HasCleared, Installs}
use Rattle.commit_steps.specs.Outcomes.{installs_more}
use Rattle.commit_steps.specs.Walks.{HoldsWalked, token_of}
use Rattle.commit_steps.proofs.InstallLemmas.{begun-of, first-left, installs-after-append, pieces-are, staged-some}
use Rattle.commit_steps.proofs.InstallNextLemmas.{adds-on}
use Rattle.commit_steps.proofs.WalksLemmas.{leads-as, walked-more, walks-on}
use Rattle.commit_steps.proofs.installing.Installing.go_on.Goals as goal

-- as a piece is left to append, fewer are staged than there are
pub append_on-walking-requires : goal.append_on-walking-requires
append_on-walking-requires g c =
    let walker = c.args.self in
    let pieces = c.pieces.ensures in
    let some : 0 < install_pieces walker = omega (arith, pieces, c.if-pieces-eq0.false) in
    let next = c.next-next.result.now in
    let is_next = subst (λ (walker : Walker).
    slice_get (changed walker.change) walker.place ≡ Some next)
    c.self.view_is c.next-next.ensures.is_next in
    let begun = begun-of walker next is_next some in
    let left = pieces-are walker next is_next
    ∙ left-of walker.staged next.bytes (staged-some walker begun) in
    let count = c.piece_count-count.ensures.value ∙ ap piece_count c.as_slice.ensures in
    let same = ap (λ (one : Walker). one.staged) c.self.view_is in
    record {
      begun = ap (λ (one : Walker). has_staged one) c.self.view_is ∙ begun;
      within = omega (arith, left, some, count, same);
    }

pub returns : goal.returns
returns g c =
    let before = g.F.Folder.moment c.args.folder.now in
    let now = g.F.Folder.moment c.append_table-appended.new.folder in
    let walker = c.args.self in
    let pieces = c.pieces.ensures in
    let some : 0 < install_pieces walker = omega (arith, pieces, c.if-pieces-eq0.false) in
    let steps = c.left.ensures in
    let more : 0 < steps_left walker = omega (arith, steps, c.if-left-eq0.false) in
    let next = c.next-next.result.now in
    let appended = c.append_table-appended.result in
    let called = c.append_table-appended.ensures in
    let token = c.token-token.ensures
    ∙ ap (λ (change : Change). change.inputs.keeper.token)
    (c.prepared.ensures ∙ ap (λ (walker : Walker). walker.change) c.self.view_is) in
    let is_next = subst (λ (walker : Walker).
    slice_get (changed walker.change) walker.place ≡ Some next)
    c.self.view_is c.next-next.ensures.is_next in
    let staged = c.staged-staged.ensures ∙ ap (λ (walker : Walker). walker.staged) c.self.view_is in
    let begun = begun-of walker next is_next some in
    let on : Walked Walker Kept = More (append_on walker) in
    let shown = leads-as after_commit appended c.leads.result
    (c.append_on-walking.ensures ∙ ap (λ (one : Walker). append_on one) c.self.view_is) More
    c.leads.ensures.shown in
    walks-on (installs_more walker next) _ on _ after_commit Installs HasCleared walker before now
    c.leads.result (adds-on walker next is_next some)
    (walked-more walker _ walker.change.inputs.keeper more some)
    (takes-step (installs_more walker next) tt (Installs walker) (HoldsWalked Installs HasCleared)
    on
    (installs-after-append walker next is_next begun) tt (λ result stood held. refl)
    (λ deeds stood held. may-append (intended walker.change) walker.change.inputs.keeper
    (tables_left walker) stood held.carries next (first-left walker next is_next) walker.staged
    (held.staged begun) deeds)
    after_commit before now called.narrows (token_of walker) appended c.leads.result shown
    c.requires
    (called-of before now _ (token_of walker) (installs_more walker next) appended token
    (subst (λ (staged : ℕ).
    Called before now c.token-token.result.now (stages_more staged next) appended)
    staged (record { told = called.told; noted = called.noted })))
    (counts (after_commit Failed) _ _ appended c.leads.result c.leads.ensures.failed called.faults))
