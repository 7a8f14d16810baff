use Rattle.std.proofs.Common.{sym, ap, ◌∙◌, arith}
use Rattle.commit_steps.specs.States.{Stager, intent_piece}
use Rattle.commit_steps.proofs.NextLemmas.{next-commit, next-further}
use Rattle.commit_steps.proofs.committing.IntentStaged.next_call.Goals as goal

pub returns-then-pieces-eq0 : goal.returns-then-pieces-eq0
returns-then-pieces-eq0 c =
    next-commit c.args.self.now (sym c.pieces.ensures ∙ c.if-pieces-eq0.true)

pub returns : goal.returns
returns c =
    let count = c.pieces.ensures in
    let some = c.if-pieces-eq0.false in
    next-further c.args.self.now (omega (arith, count, some)) c.in_ok-piece.piece
    (c.in_ok-piece.ensures ∙ (c.intent_piece.ensures.value
    ∙ ap (λ (one : Stager). intent_piece one.staged one.change) c.self.view_is))
