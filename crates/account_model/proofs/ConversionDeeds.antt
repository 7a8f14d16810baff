-- Claim: conversion keeps the hash that opens each user and each group (`conversion-keeps-users`,
-- `conversion-keeps-groups`). Way: the records of the tables that a conversion makes are its edits of the records
-- (`main-records`, `hash-records`), of which the laws of any accounts hold.
use Rattle.std.proofs.Common.{◌≡◌, ℕ, ◌≤◌, List, [], ◌∷◌, map, refl, ◌∙◌, ap, subst, Ok}
use Rattle.std.specs.Prelude.{Option, Some, None, fold, is_none}
use Rattle.std.specs.List.{AllByRecursion}
use Rattle.std.proofs.lemmas.List.Concat.{flat_map_single}
use Rattle.acct_text.specs.declared.files.Files.{Files}
use Rattle.account_model.specs.declared.refusal.Refusal.{Refusal}
use Rattle.account_model.specs.Format.{Format}
use Rattle.account_model.specs.Edits.{Edit, AddMissing, each}
use Rattle.account_model.specs.Records.{passwd_format, shadow_format, group_format, gshadow_format, greatest_days}
use Rattle.account_model.specs.RecordEdits.{IsWrittenEdit, TellsSame, records_edited}
use Rattle.account_model.specs.Settings.{Setting}
use Rattle.account_model.specs.Tables.{table_records, table_after, passwd_records, shadow_records, group_records, gshadow_records}
use Rattle.account_model.specs.Text.{first_some}
use Rattle.account_model.specs.Refusals.{refuse_if}
use Rattle.account_model.specs.Action.{Made, made_by, outcome_of}
use Rattle.account_model.specs.Hashes.{elsewhere, gshadow_of}
use Rattle.account_model.specs.Conversion.{users, groups, taken_over, gathered, hidden, with_shown, emptied, take_password, shadow_of, take_group_password, pwconv, pwunconv, grpconv, grpunconv}
use Rattle.account_model.specs.ConversionLaws.{NamesAreDistinct, AreHidden, KeepsHashes, IsGathered, users_of, groups_of, ConversionKeepsUsers, ConversionKeepsGroups}
use Rattle.account_model.proofs.BatchLaws.{outcome-made}
use Rattle.account_model.proofs.EditLines.{table-edited}
use Rattle.account_model.proofs.SameLaws.{passwd-tells, shadow-tells, group-tells, gshadow-tells}
use Rattle.account_model.proofs.ConversionLaws.{each-none, shows}
use Rattle.account_model.proofs.GatheredLaws.{gathers}
use Rattle.account_model.proofs.ConversionScripts.{pwconv-written, pwunconv-written, grpconv-written, grpunconv-written}

-- ---- The records of a table

module _ {R : Type 0} (format : Format R) (tells : TellsSame format)
    (none : format.read [] ≡ None) where
  -- those of the main table, of which each becomes another one
  main-records :
      (f : R → R) (bytes : Option (List ℕ))
      → AllByRecursion (IsWrittenEdit format) (each f ∷ [])
      → table_records format (table_after format (each f ∷ []) bytes)
      ≡ map f (table_records format bytes)
  main-records f None written = refl
  main-records f (Some bytes) written =
      table-edited format tells none (each f ∷ []) bytes written
      ∙ flat_map_single f (table_records format (Some bytes))

  -- those of a table that stands
  hash-records :
      (edits : List (Edit R)) (bytes : Option (List ℕ)) (refusal : Refusal)
      → AllByRecursion (IsWrittenEdit format) edits
      → first_some (refuse_if (is_none bytes) refusal ∷ []) ≡ None
      → table_records format (table_after format edits bytes)
      ≡ fold (records_edited format) (table_records format bytes) edits
  hash-records edits None refusal written passes = cc
  hash-records edits (Some bytes) refusal written passes =
      table-edited format tells none edits bytes written

-- ---- Users

-- pwconv
users-gathered :
    (files : Files) (settings : List Setting) (day : ℕ) (made : Made)
    → day ≤ greatest_days
    → NamesAreDistinct passwd_format (passwd_records files)
    → outcome_of (pwconv files settings day) files ≡ Ok made
    → KeepsHashes users (users_of files) (users_of made.files)
    × IsGathered users (users_of made.files)
users-gathered files settings day made small apart outcome =
    let is = outcome-made (pwconv files settings day) files made outcome
    in let written = pwconv-written files settings day small
    in subst (λ (one : Made). KeepsHashes users (users_of files) (users_of one.files)
    × IsGathered users (users_of one.files)) is.makes
    (gathers users (take_password day) (shadow_of settings day) (λ text m. refl) (λ text m. refl)
    (λ m h. refl) (λ m h. refl) (λ m. refl) (λ m. refl)
    (users_of files) (users_of (made_by (pwconv files settings day) files).files) apart
    (main-records passwd_format passwd-tells refl (users.with_field elsewhere) files.passwd
    written.passwd)
    (hash-records shadow_format shadow-tells refl
    (gathered users (take_password day) (shadow_of settings day) (passwd_records files))
    files.shadow _ written.shadow is.passes
    ∙ ap (λ records. fold (records_edited shadow_format) records
    (map (λ m. AddMissing (shadow_of settings day m)) (passwd_records files)))
    (flat_map_single (taken_over users (take_password day) (passwd_records files)) _)))

-- pwunconv
users-shown :
    (files : Files) (made : Made)
    → AreHidden users (users_of files)
    → outcome_of (pwunconv files) files ≡ Ok made
    → KeepsHashes users (users_of files) (users_of made.files)
users-shown files made hidden outcome =
    let is = outcome-made (pwunconv files) files made outcome
    in let written = pwunconv-written files
    in subst (λ (one : Made). KeepsHashes users (users_of files) (users_of one.files)) is.makes
    (shows users (λ text m. refl) (λ text m. refl)
    (users_of files) (users_of (made_by (pwunconv files) files).files) hidden
    (main-records passwd_format passwd-tells refl (with_shown users (shadow_records files))
    files.passwd written.passwd)
    (hash-records shadow_format shadow-tells refl emptied files.shadow _ written.shadow is.passes
    ∙ each-none shadow_format (shadow_records files)))

-- pwconv and pwunconv
pub conversion-keeps-users : ConversionKeepsUsers
conversion-keeps-users = record { gathers = users-gathered; shows = users-shown }

-- ---- Groups

-- grpconv
groups-gathered :
    (files : Files) (made : Made)
    → NamesAreDistinct group_format (group_records files)
    → outcome_of (grpconv files) files ≡ Ok made
    → KeepsHashes groups (groups_of files) (groups_of made.files)
    × IsGathered groups (groups_of made.files)
groups-gathered files made apart outcome =
    let is = outcome-made (grpconv files) files made outcome
    in let written = grpconv-written files
    in subst (λ (one : Made). KeepsHashes groups (groups_of files) (groups_of one.files)
    × IsGathered groups (groups_of one.files)) is.makes
    (gathers groups take_group_password gshadow_of (λ text m. refl) (λ text m. refl)
    (λ m h. refl) (λ m h. refl) (λ m. refl) (λ m. refl)
    (groups_of files) (groups_of (made_by (grpconv files) files).files) apart
    (main-records group_format group-tells refl (groups.with_field elsewhere) files.group
    written.group)
    (hash-records gshadow_format gshadow-tells refl
    (gathered groups take_group_password gshadow_of (group_records files))
    files.gshadow _ written.gshadow is.passes
    ∙ ap (λ records. fold (records_edited gshadow_format) records
    (map (λ m. AddMissing (gshadow_of m)) (group_records files)))
    (flat_map_single (taken_over groups take_group_password (group_records files)) _)))

-- grpunconv
groups-shown :
    (files : Files) (made : Made)
    → AreHidden groups (groups_of files)
    → outcome_of (grpunconv files) files ≡ Ok made
    → KeepsHashes groups (groups_of files) (groups_of made.files)
groups-shown files made hidden outcome =
    let is = outcome-made (grpunconv files) files made outcome
    in let written = grpunconv-written files
    in subst (λ (one : Made). KeepsHashes groups (groups_of files) (groups_of one.files)) is.makes
    (shows groups (λ text m. refl) (λ text m. refl)
    (groups_of files) (groups_of (made_by (grpunconv files) files).files) hidden
    (main-records group_format group-tells refl (with_shown groups (gshadow_records files))
    files.group written.group)
    (hash-records gshadow_format gshadow-tells refl emptied files.gshadow _ written.gshadow
    is.passes
    ∙ each-none gshadow_format (gshadow_records files)))

-- grpconv and grpunconv
pub conversion-keeps-groups : ConversionKeepsGroups
conversion-keeps-groups = record { gathers = groups-gathered; shows = groups-shown }
