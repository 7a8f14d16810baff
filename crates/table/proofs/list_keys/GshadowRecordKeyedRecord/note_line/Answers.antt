use Rattle.std.proofs.Common.{rules, ◌∷◌, ◌++◌, []}
use Rattle.account_model.specs.Records.{read_names}
use Rattle.acct_tables.specs.KeyPlaces.{told_places}
use Rattle.table.specs.Keys.{name_keys, own_key}
use Rattle.acct_tables.specs.declared.key_places.Spot.TheVariants.{At}
use Rattle.table.proofs.NoteLemmas.{notes-both}
use Rattle.table.proofs.list_keys.GshadowRecordKeyedRecord.note_line.Goals as goal

-- the name is noted, then the administrators, and then the members
pub returns-in-Ok : goal.returns-in-Ok
returns-in-Ok c =
    let group = c.in-Ok.group in
    let spot = At c.args.place in
    let before = told_places c.args.index.now in
    let named = told_places c.note_own.new.index in
    let administered = told_places c.note_listed.new.index in
    let after = told_places c.note_listed-in-Ok.new.index in
    let own = own_key group.name.now ∷ [] in
    let administrators = name_keys (read_names group.administrators.now) in
    let both = notes-both spot before administered after (own ++ administrators)
    (name_keys (read_names group.members.now)) (notes-both spot before named administered own
    administrators c.note_own.ensures c.note_listed.ensures) c.note_listed-in-Ok.ensures in
    search rules
