use Rattle.std.proofs.Common.{◌∙◌, ap, refl}
use Rattle.std.specs.Prelude.{not}
use Rattle.account_model.specs.Records.{subid_format}
use Rattle.line_edits.specs.SubidChanges.{subid_becomes}
use Rattle.line_edits.proofs.NameRemovals.{removal-named}
use Rattle.line_edits.proofs.NamingLemmas.{touches-named, touches-removed}
use Rattle.line_edits.proofs.subid_changes.SubidRecordEditedRecord.only_name.Goals as goal

pub returns-in-Rename : goal.returns-in-Rename
returns-in-Rename c =
    let new = c.in-Rename.field-1 in
    touches-named subid_format subid_becomes c.args.change.now _ c.in-Rename.old
    c.as_slice.result.now c.in-Rename.is c.as_slice.ensures (λ r. record r { owner = new })
    (λ r. refl)

pub returns-in-Remove : goal.returns-in-Remove
returns-in-Remove c =
    let change = c.args.change.now in
    let user = c.in-Remove.user in
    touches-removed subid_format subid_becomes change _ user c.as_slice-in-Remove.result.now
    (removal-named change user c.in-Remove.uid c.in-Remove.is
    (c.is_none.ensures ∙ ap not c.if-is_none.true))
    c.as_slice-in-Remove.ensures (λ r. refl)
