use Rattle.std.proofs.Common.{sym, subst}
use Rattle.acct_text.specs.Pieces.{cut_at}
use Rattle.account_model.specs.Text.{comma, nonempty}
use Rattle.table.specs.Keys.{name_keys}
use Rattle.acct_tables.specs.KeyPlaces.{NotesOf, told_places}
use Rattle.table.proofs.NoteLemmas.{notes-piece}
use Rattle.table.proofs.key_names.note_listed.Goals as goal

-- the piece in front is noted, and then the names of the rest
pub names-preserved : goal.names-preserved
names-preserved c = λ after behind.
    let cut = c.in-Some.cut in
    c.names.invariant after
    (notes-piece c.args.spot (told_places c.names.index) (told_places c.note_piece.new.index) after
    cut.before.now (cut_at comma c.names.rest.now) (cut_at comma cut.behind.now)
    c.in-Some.ensures.cut c.note_piece.ensures behind)

-- the last piece is noted
pub returns : goal.returns
returns c =
    c.names.invariant (told_places c.note_piece-2.new.index)
    (subst (λ pieces. NotesOf (name_keys (nonempty pieces)) c.args.spot (told_places c.names.index)
    (told_places c.note_piece-2.new.index)) (sym c.in_default.ensures.cut) c.note_piece-2.ensures)
