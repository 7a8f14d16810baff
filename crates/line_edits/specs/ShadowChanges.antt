-- What the changes of users make of a record of shadow (shadow(5)).
use Rattle.std.specs.Prelude.{ℕ, List, Option, None, Some, unwrap_or}
use Rattle.account_model.specs.declared.records.ShadowRecord.{ShadowRecord}
use Rattle.account_model.specs.Records.{shadow_format}
use Rattle.line_edits.specs.HashChanges.{hash_by}
use Rattle.line_edits.specs.Naming.{changed_named, without_named}
use Rattle.line_edits.specs.declared.shadow_changes.DaysChange.{DaysChange}
use Rattle.line_edits.specs.declared.shadow_changes.DaysChange.TheVariants.{Stays, Empties, Becomes}
use Rattle.line_edits.specs.declared.shadow_changes.ShadowFields.{ShadowFields}
use Rattle.line_edits.specs.declared.shadow_changes.ShadowAct.{ShadowAct}
use Rattle.line_edits.specs.declared.shadow_changes.ShadowAct.TheVariants.{SetHash, SetLastChange, ChangeHash, SetFields}
use Rattle.line_edits.specs.declared.shadow_changes.ShadowChange.{ShadowChange}
use Rattle.line_edits.specs.declared.shadow_changes.ShadowChange.TheVariants.{Named, Remove}

-- the value that a field of days is given, if it is given one; no number empties the field
abbrev pub given_days : DaysChange → Option (Option ℕ)
given_days Stays = None
given_days Empties = Some None
given_days (Becomes days) = Some (Some days)

-- the record with the fields that are given (usermod(8), `-e`, `-f` and `-l`; chage(1))
abbrev pub with_shadow_fields : ShadowFields → ShadowRecord → ShadowRecord
with_shadow_fields fields r = record r {
  name = unwrap_or fields.name r.name;
  last_change = unwrap_or (given_days fields.last_change) r.last_change;
  minimum = unwrap_or (given_days fields.minimum) r.minimum;
  maximum = unwrap_or (given_days fields.maximum) r.maximum;
  warning = unwrap_or (given_days fields.warning) r.warning;
  inactive = unwrap_or (given_days fields.inactive) r.inactive;
  expiration = unwrap_or (given_days fields.expiration) r.expiration;
}

-- the record after an act
abbrev pub shadow_after : ShadowAct → ShadowRecord → ShadowRecord
shadow_after (SetHash hash) r = record r { hash = hash }
shadow_after (SetLastChange day) r = record r { last_change = Some day }
shadow_after (ChangeHash change) r = record r { hash = hash_by change r.hash }
shadow_after (SetFields fields) r = with_shadow_fields fields r

-- the records that a record becomes by a change
abbrev pub shadow_becomes : ShadowChange → ShadowRecord → List ShadowRecord
shadow_becomes (Named name act) r = changed_named shadow_format name (shadow_after act) r
shadow_becomes (Remove name) r = without_named shadow_format name r
