use Rattle.std.proofs.Common.{◌≡◌, true, subst, rules}
use Rattle.std.specs.Prelude.{IfSome}
use Rattle.line_edits.specs.SeenEdits.{seen_edit}
use Rattle.carried_tables.specs.KeptIds.{AreIdsOf, table_counts}
use Rattle.carried_tables.proofs.KeptIdLemmas.{after-edit}
use Rattle.carried_tables.proofs.id_table.ids_after.Goals as goal

-- the IDs follow the edit
pub returns : goal.returns
returns g c =
    let format = g.R.TableRecord.format in
    let id_of = g.R.NumberedRecord.id_of in
    let file = c.args.table.now in
    let told : c.in_ok-follow.field-0 ≡ true = search rules in
    let before : AreIdsOf c.in-Some.ids (table_counts format id_of file) =
    subst (λ ids. IfSome ids (λ ids. AreIdsOf ids (table_counts format id_of file))) c.in-Some.is
    c.requires.before in
    after-edit format id_of (seen_edit g.R.EditedRecord.becomes c.args.edit.now) file
    c.follow.new.ids g.met.R.TableRecord.is_line_format.same g.met.R.EditedRecord.no_blank
    c.requires.written c.requires.there (c.in_ok-follow.ensures told before)
