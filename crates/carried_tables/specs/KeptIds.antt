-- How the IDs of users and groups go on through the edits of their table (passwd(5), group(5)).
use Rattle.std.specs.Prelude.{◌≡◌, ℕ, ◌+◌, ◌≤◌, ◌==◌, Bool, true, false, is_none, nat_le, List, [], ◌∷◌, map, count_by, Option, Some, None}
use Rattle.account_model.specs.Edits.{Edit}
use Rattle.account_model.specs.Format.{Format, is_named}
use Rattle.account_model.specs.RecordEdits.{records_edited}
use Rattle.account_model.specs.Tables.{table_records}
use Rattle.account_model.specs.Ids.{is_used}
use Rattle.table.specs.Accepting.{IsNumberOf}
use Rattle.line_edits.specs.declared.group_changes.GroupAct.{GroupAct}
use Rattle.line_edits.specs.declared.group_changes.GroupAct.TheVariants.{SetGid}
use Rattle.line_edits.specs.declared.passwd_changes.PasswdAct.{PasswdAct}
use Rattle.line_edits.specs.declared.passwd_changes.PasswdAct.TheVariants.{SetFields}
use Rattle.carried_tables.specs.declared.kept_ids.IdsInUse.{IdsInUse}
use Rattle.carried_tables.specs.declared.kept_ids.IdsInUse.TheVariants.{Gathered, Kept}
use Rattle.carried_tables.specs.declared.kept_ids.KeptIds.{KeptIds}

-- ---- What is kept

-- how often each ID stands in the list
abbrev pub counts_of : List ℕ → ℕ → ℕ
counts_of ids id = count_by (λ other. other == id) ids

-- so many records have each ID: the used ones are those that a record has, and each that two or more
-- have is among the shared ones
pub record AreIdsOf (kept : KeptIds) (counts : ℕ → ℕ) : Type 0 where
  pub used : (id : ℕ) → is_used kept.used id ≡ nat_le 1 (counts id)
  pub shared : (id : ℕ) → 2 ≤ counts id → is_used kept.shared id ≡ true

-- how many records of the table have each ID
abbrev pub table_counts : {R : Type 0} → Format R → (R → ℕ) → Option (List ℕ) → ℕ → ℕ
table_counts format id_of file = counts_of (map id_of (table_records format file))

-- where the IDs before are kept for records, those after are for the same without the lost IDs and
-- with the gained ones; a record has each that is lost
abbrev pub FollowSwap : KeptIds → KeptIds → List ℕ → List ℕ → Type 0
FollowSwap old new lost gained =
    (before after : ℕ → ℕ)
    → AreIdsOf old before
    → ((id : ℕ) → after id + counts_of lost id ≡ before id + counts_of gained id)
    → AreIdsOf new after

-- where the IDs before are kept for the records, those after are for the records after the edit
abbrev pub FollowEdit :
    {R : Type 0} → Format R → (R → ℕ) → KeptIds → KeptIds → List R → Edit R → Type 0
FollowEdit format id_of old new records edit =
    AreIdsOf old (counts_of (map id_of records))
    → AreIdsOf new (counts_of (map id_of (records_edited format records edit)))

-- the line of each record has the decimal text of its ID
abbrev pub AreNumbered : {R : Type 0} → Format R → (R → ℕ) → Type 0
AreNumbered format id_of = (id : ℕ) → IsNumberOf format (λ r. id_of r == id) id

-- the IDs, gathered for one question or kept
abbrev pub ids_in : IdsInUse → List ℕ
ids_in (Gathered ids) = ids
ids_in (Kept ids) = ids.now

-- ---- What changes do

-- f leaves one record in the place of each, with its ID
abbrev pub KeepsIds : {R : Type 0} → (R → ℕ) → (R → List R) → Type 0
KeepsIds {R = R} id_of f = (r : R) → map id_of (f r) ≡ id_of r ∷ []

-- whether the act leaves the UID of the user
abbrev pub keeps_uid : PasswdAct → Bool
keeps_uid (SetFields fields) = is_none fields.uid
keeps_uid _ = true

-- whether the act leaves the GID of the group
abbrev pub keeps_gid : GroupAct → Bool
keeps_gid (SetGid gid) = false
keeps_gid _ = true

-- the ID of a record, and none where it is gone
abbrev pub new_ids : Option ℕ → List ℕ
new_ids None = []
new_ids (Some id) = id ∷ []

-- by f the records of the name go, or get this ID, and all others keep theirs
pub record Renumbers {R : Type 0} (format : Format R) (id_of : R → ℕ) (f : R → List R)
    (name : List ℕ) (new : Option ℕ) : Type 0 where
  pub others : (r : R) → is_named format name r ≡ false → map id_of (f r) ≡ id_of r ∷ []
  pub named : (r : R) → is_named format name r ≡ true → map id_of (f r) ≡ new_ids new
