-- What the changes of owners make of a record of subuid or subgid (subuid(5), subgid(5)).
use Rattle.std.specs.Prelude.{List, [], ◌∷◌, if◌then◌else◌}
use Rattle.account_model.specs.declared.records.SubidRecord.{SubidRecord}
use Rattle.account_model.specs.Format.{is_named}
use Rattle.account_model.specs.Records.{subid_format}
use Rattle.account_model.specs.SubidOwner.{is_owned, left_without}
use Rattle.line_edits.specs.declared.subid_changes.SubidChange.{SubidChange}
use Rattle.line_edits.specs.declared.subid_changes.SubidChange.TheVariants.{Rename, Remove, Cut}

-- the records that a record becomes by a change
abbrev pub subid_becomes : SubidChange → SubidRecord → List SubidRecord
subid_becomes (Rename old new) r =
    (if is_named subid_format old r then record r { owner = new } else r) ∷ []
subid_becomes (Remove user uid) r = if is_owned user uid r then [] else r ∷ []
subid_becomes (Cut cut) r =
    if is_owned cut.owner cut.uid r then left_without cut.first cut.last r else r ∷ []
