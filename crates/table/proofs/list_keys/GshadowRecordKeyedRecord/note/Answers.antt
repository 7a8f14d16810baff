use Rattle.std.proofs.Common.{[], ◌∷◌, map, subst}
use Rattle.acct_tables.specs.KeyPlaces.{NotesOf, told_places}
use Rattle.acct_tables.specs.NameHashes.{name_hash}
use Rattle.table.specs.Keys.{own_key}
use Rattle.table.proofs.NoteLemmas.{notes-both}
use Rattle.table.proofs.list_keys.GshadowRecordKeyedRecord.note.Goals as goal

pub returns : goal.returns
returns c =
    let group = c.args.self.now in
    let own = own_key group.name ∷ [] in
    let before = told_places c.args.index.now in
    let named = told_places c.note_own.new.index in
    let listed = told_places c.note_names.new.index in
    let after = told_places c.note_names-2.new.index in
    let spot = c.args.spot in
    notes-both spot before listed after (own_key group.name ∷ map name_hash group.administrators)
    (map name_hash group.members)
    (notes-both spot before named listed own (map name_hash group.administrators)
    (subst (λ name. NotesOf (own_key name ∷ []) spot before named) c.as_slice.ensures
    c.note_own.ensures) c.note_names.ensures)
    c.note_names-2.ensures
