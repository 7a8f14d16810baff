use Rattle.std.proofs.Common.{refl, sym, subst, arith}
use Rattle.side_by_side.specs.Scenes.{TakePart, scene}
use Rattle.side_by_side.specs.Advances.{Advances}
use Rattle.side_by_side.proofs.StepLemmas.{steps-lead, taken-all, taken-front, taken-more}
use Rattle.side_by_side.proofs.playing.play.Goals as goal

pub steps-init : goal.steps-init
steps-init g c = refl

pub take-requires : goal.take-requires
take-requires g c = (steps-lead _ (scene c.args.folder.now c.args.sessions.now.items)
    (scene c.steps.folder c.steps.sessions.items) c.requires c.steps.invariant).part

pub steps-preserved : goal.steps-preserved
steps-preserved g c = taken-more c.args.steps.now c.steps.step-index
    (scene c.args.folder.now c.args.sessions.now.items)
    (scene c.steps.folder c.steps.sessions.items) c.take.new.folder c.take.new.sessions.items
    c.step-item.result (omega arith) c.step-item.is
    c.steps.invariant c.in_ok-take.ensures.taken

pub returns-in_err-take-clause-front : goal.returns-in_err-take-clause-front
returns-in_err-take-clause-front g c = taken-front c.args.steps.now c.steps.step-index
    (scene c.args.folder.now c.args.sessions.now.items)
    (scene c.take.new.folder c.take.new.sessions.items)
    (scene c.steps.folder c.steps.sessions.items) c.in_err-take.ensures.stays c.steps.invariant

pub returns-clause-front : goal.returns-clause-front
returns-clause-front g c = taken-front c.args.steps.now c.steps.step-index
    (scene c.args.folder.now c.args.sessions.now.items)
    (scene c.steps.folder c.steps.sessions.items)
    (scene c.steps.folder c.steps.sessions.items) refl c.steps.invariant

pub returns-clause-whole : goal.returns-clause-whole
returns-clause-whole g c = taken-all c.args.steps.now c.steps.step-index
    (scene c.args.folder.now c.args.sessions.now.items)
    (scene c.steps.folder c.steps.sessions.items) (omega arith) c.steps.invariant

pub returns-in_err-take-clause-take_part : goal.returns-in_err-take-clause-take_part
returns-in_err-take-clause-take_part g c = subst TakePart (sym c.in_err-take.ensures.stays)
    (steps-lead _ (scene c.args.folder.now c.args.sessions.now.items)
    (scene c.steps.folder c.steps.sessions.items) c.requires c.steps.invariant).part

pub returns-in_err-take-clause-advances : goal.returns-in_err-take-clause-advances
returns-in_err-take-clause-advances g c =
    subst (Advances (scene c.args.folder.now c.args.sessions.now.items))
    (sym c.in_err-take.ensures.stays)
    (steps-lead _ (scene c.args.folder.now c.args.sessions.now.items)
    (scene c.steps.folder c.steps.sessions.items) c.requires c.steps.invariant).advances

pub returns-clause-take_part : goal.returns-clause-take_part
returns-clause-take_part g c = (steps-lead _ (scene c.args.folder.now c.args.sessions.now.items)
    (scene c.steps.folder c.steps.sessions.items) c.requires c.steps.invariant).part

pub returns-clause-advances : goal.returns-clause-advances
returns-clause-advances g c = (steps-lead _ (scene c.args.folder.now c.args.sessions.now.items)
    (scene c.steps.folder c.steps.sessions.items) c.requires c.steps.invariant).advances
