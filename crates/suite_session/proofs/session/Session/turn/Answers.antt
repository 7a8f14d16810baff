use Rattle.std.proofs.Common.{sym, subst, ◌∙◌}
use Rattle.suite_session.specs.declared.session.Phase.{Phase}
use Rattle.suite_session.specs.Belongs.{Belongs}
use Rattle.suite_session.specs.Turning.{KeepsOthers}
use Rattle.suite_session.proofs.BelongingTurns.{others-kept, turned-belongs}
use Rattle.suite_session.proofs.session.Session.turn.Goals as goal

pub returns-clause-belongs : goal.returns-clause-belongs
returns-clause-belongs g c =
    let before = g.F.Folder.moment c.args.folder.now in
    let now = g.F.Folder.moment c.turned-next.new.folder in
    subst (Belongs now) (sym c.replace.ensures.after)
    (turned-belongs before now c.replace-phase.result c.turned-next.result
    (subst (Belongs before) (sym (c.replace-phase.ensures.value ∙ c.self.view_is)) c.requires)
    c.turned-next.ensures.turns)

pub returns-clause-others : goal.returns-clause-others
returns-clause-others g c =
    let before = g.F.Folder.moment c.args.folder.now in
    let now = g.F.Folder.moment c.turned-next.new.folder in
    subst (λ (phase : Phase). KeepsOthers before now phase c.replace.new.dest)
    (c.replace-phase.ensures.value ∙ c.self.view_is)
    (subst (λ (phase : Phase). KeepsOthers before now c.replace-phase.result phase)
    (sym c.replace.ensures.after)
    (others-kept before now c.replace-phase.result c.turned-next.result
    c.turned-next.ensures.turns))
