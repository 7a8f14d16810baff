use Rattle.std.proofs.Common.{take}
use Rattle.table.specs.Keys.{name_keys}
use Rattle.acct_tables.specs.KeyPlaces.{NotesOf, told_places}
use Rattle.table.proofs.key_names.note_names.Given as goal

-- the names so far are noted
abbrev pub invariant-names : goal.invariant-names
invariant-names l =
    NotesOf (name_keys (take l.name-index l.name-items)) l.spot (told_places l.initial.index)
    (told_places l.index)
