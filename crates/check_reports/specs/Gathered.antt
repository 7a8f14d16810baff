-- What pwconv and grpconv make of the table of hashes (pwconv(8)).
use Rattle.std.specs.Prelude.{◌≡◌, ◌||◌, ℕ, List, [], ◌∷◌, ◌++◌, bytes_eq, is_some, length, map, None, Some, if◌then◌else◌}
use Rattle.acct_text.specs.Lines.{lines_of}
use Rattle.account_model.specs.Conversion.{Accounts, gathered}
use Rattle.account_model.specs.Edits.{AddMissing, Become, Edit, edited_by}
use Rattle.account_model.specs.Format.{Format, has_named, records_of}
use Rattle.account_model.specs.Hashes.{elsewhere}
use Rattle.acct_tables.specs.NameIndex.{told}
use Rattle.check_reports.specs.declared.making.Grown.{Grown}
use Rattle.check_reports.specs.declared.secrets.Secrets.{Secrets}
use Rattle.check_reports.specs.Secrets.{found_text}

-- the record takes over the field that is kept under its name, where that isn't `x`; without one it goes
abbrev pub gathered_by : {H : Type 0} → Format H → Secrets → (List ℕ → H → H) → H → List H
gathered_by format fields take h = elim (found_text fields (format.name h)) [
  | None ↦ []
  | Some field ↦ (if bytes_eq field elsewhere then h else take field h) ∷ []
]

-- what is made of main records is added where its name is missing
abbrev pub made_edits : {M H : Type 0} → (M → H) → List M → List (Edit H)
made_edits make mains = map (λ m. AddMissing (make m)) mains

-- all edits of the table of hashes, by the fields that are kept
abbrev pub gathered_edits : {M H : Type 0} → Format H → Secrets → (List ℕ → H → H) → (M → H)
    → List M → List (Edit H)
gathered_edits format fields take make mains =
    Become (gathered_by format fields take) ∷ made_edits make mains

-- those by the main records, of which the fields alone are taken over
abbrev pub taken_edits : {M H : Type 0} → Accounts M H → (List ℕ → H → H) → (M → H)
    → List M → List (Edit H)
taken_edits accounts take make mains =
    gathered accounts (λ m h. take (accounts.field m) h) make mains

-- what is made of a main record has its name; and no empty text is a record
pub record IsMaking {Self M H : Type 0} (main : Format M) (format : Format H)
    (make : Self → M → H) : Type 0 where
  pub named : (making : Self) (m : M) → format.name (make making m) ≡ main.name m
  pub no_blank : format.read [] ≡ None

-- behind these main records the names are those that stood there, and theirs
pub record IsGrown {M H : Type 0} (main : Format M) (format : Format H) (before : List M)
    (grown : Grown) : Type 0 where
  pub names : (name : List ℕ) → has_named format name (records_of format (lines_of grown.text))
      ≡ (is_some (told grown.there name) || has_named main name before)
  pub counted : grown.place ≡ length before

-- one more main record is looked at, or none: what is made of it is added where its name is missing
pub record Grows {M H : Type 0} (main : Format M) (format : Format H) (make : M → H)
    (before found : List M) (old new : Grown) : Type 0 where
  pub lines : lines_of new.text ≡ edited_by format (made_edits make found) (lines_of old.text)
  pub grown : IsGrown main format (before ++ found) new
