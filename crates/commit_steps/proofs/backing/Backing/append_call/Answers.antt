use Rattle.std.proofs.Common.{◌≡◌, ap, ◌∙◌, ℕ}
use Rattle.acct_text.specs.Bytes.{Bytes}
use Rattle.acct_outside.specs.Pieces.{piece_at}
use Rattle.commit_steps.specs.States.{Walker, next_table, old_bytes}
use Rattle.commit_steps.proofs.NextLemmas.{next-more}
use Rattle.commit_steps.proofs.TablesLemmas.{which}
use Rattle.commit_steps.proofs.backing.Backing.append_call.Goals as goal

pub returns : goal.returns
returns c =
    let walker = c.args.self.now in
    let next = which (next_table walker)
    (λ next. c.old.result.now ≡ old_bytes walker.change next.table) c.old.ensures in
    next-more walker next.0 next.1 c.requires.pieces c.in_ok-piece.piece
    (c.in_ok-piece.ensures ∙ (c.piece_at.ensures
    ∙ (ap (λ (old : Bytes). piece_at c.staged.result old) next.2
    ∙ ap (λ (place : ℕ). piece_at place (old_bytes walker.change next.0.table))
    (c.staged.ensures ∙ ap (λ (one : Walker). one.staged) c.self.view_is))))
