-- What opens the accounts of a table, and how that is kept by their names (passwd(5), shadow(5), group(5), gshadow(5)).
use Rattle.std.specs.Prelude.{◌≡◌, ℕ, List, map, Option, Some, None, slice_get}
use Rattle.account_model.specs.Format.{Format}
use Rattle.check_reports.specs.Sorted.{IsOrderOf, kept_place}
use Rattle.check_reports.specs.declared.secrets.Secrets.{Secrets}

-- the text is a field of the record: it becomes what is put there, and it put back changes nothing
pub record IsSecret {R : Type 0} (secret : R → List ℕ) (with_secret : List ℕ → R → R) : Type 0 where
  pub with : (text : List ℕ) (r : R) → secret (with_secret text r) ≡ text
  pub own : (r : R) → with_secret (secret r) r ≡ r

-- the texts that are kept
abbrev pub kept_texts : Secrets → List (List ℕ)
kept_texts secrets = map (λ text. text.now) secrets.texts.items

-- the text at the place of the name
abbrev pub found_text : Secrets → List ℕ → Option (List ℕ)
found_text secrets name = slice_get (kept_texts secrets) (kept_place secrets.order name)

-- what is kept of records: the places of their names, and their texts
pub record HasSecrets {R : Type 0} (format : Format R) (secret : R → List ℕ) (records : List R)
    (secrets : Secrets) : Type 0 where
  pub order : IsOrderOf format records secrets.order
  pub texts : kept_texts secrets ≡ map secret records

-- the record with the text that is kept under its name, where there is one
abbrev pub shown_by : {R : Type 0} → Format R → (List ℕ → R → R) → Secrets → R → R
shown_by format with_secret secrets r = elim (found_text secrets (format.name r)) [
  | None ↦ r
  | Some text ↦ with_secret text r
]
