-- Claims: of a list of names in which one is added, taken out or renamed, a name passes a test only
-- where one of the list before does, or the name that is new (`with-passed`, `without-passed`,
-- `renamed-passed`); names have a key where one passes such a test (`keys-of-names`); and a name whose
-- key is none of a list's isn't listed (`keyless-unlisted`). Way: name by name.
use Rattle.std.proofs.Common.{◌≡◌, ◌∙◌, ℕ, Bool, true, false, inl, inr, List, [], ◌∷◌, ◌++◌, refl, sym, ap}
use Rattle.std.specs.Prelude.{◌==◌, ◌&&◌, ◌||◌, bytes_eq, filter, not, if◌then◌else◌}
use Rattle.std.specs.List.{list_any}
use Rattle.std.proofs.lemmas.Bool.{eq-eqb, or_cases}
use Rattle.std.proofs.lemmas.List.Folds.{list_any-append}
use Rattle.std.proofs.lemmas.Slice.Eq.{bytes_eq-Decides}
use Rattle.account_model.specs.Text.{is_listed}
use Rattle.account_model.specs.Members.{in_place_of, name_once, renamed_in, with_name, without_name}
use Rattle.acct_tables.specs.NameHashes.{name_hash}
use Rattle.line_edits.proofs.LeftLemmas.{neither}
use Rattle.table.specs.Keys.{name_keys}
use Rattle.acct_tables.specs.KeyPlaces.{has_key}

-- of two tests one passes where one of two others does, of which each follows
pub either-passes :
    (one other new more : Bool)
    → (one ≡ true → new ≡ true)
    → (other ≡ true → more ≡ true)
    → (one || other) ≡ true
    → (new || more) ≡ true
either-passes true other new more first rest passed = ap (λ test. test || more) (first refl)
either-passes false other true more first rest passed = refl
either-passes false other false more first rest passed = rest passed

module _ (passes : List ℕ → Bool) where
  -- a name of the new list passes only where one of the old list does
  abbrev pub PassesOnly : List (List ℕ) → List (List ℕ) → Type 0
  PassesOnly old new = list_any passes new ≡ true → list_any passes old ≡ true

  -- a list behind names of which the first is left out, or not
  first-kept :
      (kept : Bool) (name : List ℕ) (names rest : List (List ℕ))
      → PassesOnly names rest
      → PassesOnly (name ∷ names) (if kept then name ∷ rest else rest)
  first-kept true name names rest only passed =
      either-passes (passes name) (list_any passes rest) (passes name) (list_any passes names)
      (λ is. is) only passed
  first-kept false name names rest only passed =
      either-passes false (list_any passes rest) (passes name) (list_any passes names)
      (λ is. absurd cc) only passed

  -- names are left out
  filtered :
      (kept : List ℕ → Bool) (names : List (List ℕ)) → PassesOnly names (filter kept names)
  filtered kept [] passed = passed
  filtered kept (name ∷ names) passed =
      first-kept (kept name) name names (filter kept names) (filtered kept names) passed

  -- a name is taken out
  pub without-passed :
      (name : List ℕ) (names : List (List ℕ)) → PassesOnly names (without_name name names)
  without-passed name names = filtered (λ other. not (bytes_eq other name)) names

  -- by whether the name is there
  with-by :
      (listed : Bool) (name : List ℕ) (names : List (List ℕ))
      → passes name ≡ false
      → PassesOnly names (if listed then names else names ++ name ∷ [])
  with-by true name names fails passed = passed
  with-by false name names fails passed =
      elim (or_cases (list_any passes names) (list_any passes (name ∷ []))
      (sym (list_any-append passes names (name ∷ [])) ∙ passed)) [
        | inl is ↦ is
        | inr last ↦
            let both : true ≡ false = sym last ∙ ap (λ test. test || false) fails in absurd cc
      ]

  -- a name that fails is added
  pub with-passed :
      (name : List ℕ) (names : List (List ℕ))
      → passes name ≡ false
      → PassesOnly names (with_name name names)
  with-passed name names fails = with-by (is_listed name names) name names fails

  -- by whether it is the old name
  replaced-by :
      (is_old : Bool) (new name : List ℕ)
      → passes new ≡ false
      → passes (if is_old then new else name) ≡ true
      → passes name ≡ true
  replaced-by true new name fails passed =
      let both : true ≡ false = sym passed ∙ fails in absurd cc
  replaced-by false new name fails passed = passed

  -- a name that fails stands in the place of another
  replaced :
      (old new : List ℕ) (names : List (List ℕ))
      → passes new ≡ false
      → PassesOnly names (in_place_of old new names)
  replaced old new [] fails passed = passed
  replaced old new (name ∷ names) fails passed =
      either-passes (passes (if bytes_eq name old then new else name))
      (list_any passes (in_place_of old new names)) (passes name) (list_any passes names)
      (replaced-by (bytes_eq name old) new name fails) (replaced old new names fails) passed

  -- by whether it is the first of the same names
  once-by :
      (same : Bool) (name other : List ℕ) (names : List (List ℕ))
      → PassesOnly names (name_once name names)
      → PassesOnly (other ∷ names)
      (if same then other ∷ without_name name names else other ∷ name_once name names)
  once-by true name other names only passed =
      first-kept true other names (without_name name names) (without-passed name names) passed
  once-by false name other names only passed =
      first-kept true other names (name_once name names) only passed

  -- of the same names one is left
  once : (name : List ℕ) (names : List (List ℕ)) → PassesOnly names (name_once name names)
  once name [] passed = passed
  once name (other ∷ names) passed =
      once-by (bytes_eq other name) name other names (once name names) passed

  -- by whether it is renamed
  renamed-by :
      (is_renamed : Bool) (old new : List ℕ) (names : List (List ℕ))
      → passes new ≡ false
      → PassesOnly names (if is_renamed then name_once new (in_place_of old new names) else names)
  renamed-by true old new names fails passed =
      replaced old new names fails (once new (in_place_of old new names) passed)
  renamed-by false old new names fails passed = passed

  -- a name becomes one that fails
  pub renamed-passed :
      (old new : List ℕ) (names : List (List ℕ))
      → passes new ≡ false
      → PassesOnly names (renamed_in old new names)
  renamed-passed old new names fails =
      renamed-by (is_listed old names && not (bytes_eq old new)) old new names fails

-- whether this is the key of the name
abbrev pub is_key_of : ℕ → List ℕ → Bool
is_key_of key name = name_hash name == key

-- names have a key where one of them does
pub keys-of-names :
    (key : ℕ) (names : List (List ℕ))
    → has_key key (name_keys names) ≡ list_any (is_key_of key) names
keys-of-names key [] = refl
keys-of-names key (name ∷ names) =
    ap (λ rest. is_key_of key name || rest) (keys-of-names key names)

-- by whether it is the first of the list
unlisted-by :
    (same listed has : Bool) (name other : List ℕ)
    → bytes_eq name other ≡ same
    → (name_hash other == name_hash name || has) ≡ false
    → (has ≡ false → listed ≡ false)
    → (same || listed) ≡ false
unlisted-by true listed has name other is none rest =
    let one : (name_hash other == name_hash name) ≡ true =
    eq-eqb (name_hash other) (name_hash name)
    (ap name_hash (sym ((bytes_eq-Decides name other).0 is))) in
    let both : true ≡ false = sym (ap (λ test. test || has) one) ∙ none in absurd cc
unlisted-by false listed has name other is none rest =
    rest (neither (name_hash other == name_hash name) has none).1

-- a name whose key is none of theirs isn't listed
pub keyless-unlisted :
    (name : List ℕ) (names : List (List ℕ))
    → has_key (name_hash name) (name_keys names) ≡ false
    → is_listed name names ≡ false
keyless-unlisted name [] none = refl
keyless-unlisted name (other ∷ names) none =
    unlisted-by (bytes_eq name other) (is_listed name names)
    (has_key (name_hash name) (name_keys names)) name other refl none
    (keyless-unlisted name names)
