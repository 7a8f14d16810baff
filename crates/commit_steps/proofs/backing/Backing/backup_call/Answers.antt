use Rattle.std.proofs.Common.{◌≡◌, sym, ap, subst, ◌∙◌, slice_get, Some}
use Rattle.std.specs.Prelude.{IsSome}
use Rattle.acct_text.specs.Bytes.{Bytes}
use Rattle.acct_outside.specs.Pieces.{piece_at}
use Rattle.commit_steps.specs.States.{Walker, changed, has_staged, next_table, old_bytes, old_files}
use Rattle.commit_steps.proofs.NextLemmas.{next-backup, next-old}
use Rattle.commit_steps.proofs.TablesLemmas.{which}
use Rattle.commit_steps.proofs.backing.Backing.backup_call.Goals as goal

pub returns-then-has_staged : goal.returns-then-has_staged
returns-then-has_staged c =
    let next = c.next.result.now in
    next-backup c.args.self.now next
    (subst (λ (one : Walker). slice_get (changed one.change) one.place ≡ Some next) c.self.view_is
    c.next.ensures.is_next)
    (subst (λ (one : Walker). IsSome (old_files one.change next.table)) c.self.view_is
    c.next.ensures.stands)
    (sym (c.has_staged.ensures ∙ ap (λ (one : Walker). has_staged one) c.self.view_is)
    ∙ c.if-has_staged.true) c.requires.whole

pub returns : goal.returns
returns c =
    let walker = c.args.self.now in
    let next = which (next_table walker)
    (λ next. c.old.result.now ≡ old_bytes walker.change next.table) c.old.ensures in
    next-old walker next.0 next.1
    (sym (c.has_staged.ensures ∙ ap (λ (one : Walker). has_staged one) c.self.view_is)
    ∙ c.if-has_staged.false) c.requires.whole c.in_ok-piece.piece
    (c.in_ok-piece.ensures ∙ (c.piece_at.ensures
    ∙ ap (λ (old : Bytes). piece_at 0 old) next.2))
