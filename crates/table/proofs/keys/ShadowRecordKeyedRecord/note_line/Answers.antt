use Rattle.std.proofs.Common.{refl}
use Rattle.account_model.specs.Records.{shadow_format}
use Rattle.account_model.proofs.NamingLaws.{shadow-names_first}
use Rattle.acct_tables.specs.KeyPlaces.{told_places}
use Rattle.table.specs.Keys.{shadow_keys}
use Rattle.acct_tables.specs.declared.key_places.Spot.TheVariants.{At}
use Rattle.table.proofs.OwnKeys.{notes-first}
use Rattle.table.proofs.keys.ShadowRecordKeyedRecord.note_line.Goals as goal

-- the first field is the name
pub returns : goal.returns
returns c =
    notes-first shadow_format shadow_keys shadow-names_first (λ r. refl) c.args.line.now
    (At c.args.place) (told_places c.args.index.now) (told_places c.note_first.new.index)
    c.note_first.ensures
